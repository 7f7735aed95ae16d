-- Two nests with the same heads, bounds and held nodes satisfy the same inequalities.
use Rattle.std.proofs.Common.{◌≡◌, ℕ, ◌+◌, ◌*◌, ◌<◌, ◌≤◌, List, [], ◌∷◌, IsTrue, IsFalse, sym, ◌∙◌}
use Rattle.std.proofs.Common.{subst, arith}
use Rattle.flat_graph.specs.Graph.{Graph}
use Rattle.loop_regions.specs.Nest.{Nest, IsBackEdge, Item, Node, Loop, IsItem, Leaves, LeavesLast}
use Rattle.loop_regions.specs.Potentials.{Costs, Potentials, MeetsAt, Meets, item_potential}
use Rattle.loop_regions.specs.Stated.{IsForwardPath}

pub record Alike (n m : Nest) : Type 0 where
  pub size : n.size ≡ m.size
  pub head : (r : ℕ) → r < n.size → n.head r ≡ m.head r
  pub bound : (r : ℕ) → r < n.size → n.bound r ≡ m.bound r
  pub holds : (r y : ℕ) → r < n.size → n.holds r y ≡ m.holds r y

pub turned : (n m : Nest) → Alike n m → Alike m n
turned n m A =
    let back : (r : ℕ) → r < m.size → r < n.size = λ r lt. subst (λ k. r < k) (sym A.size) lt in
    record {
      size = sym A.size;
      head = λ r lt. sym (A.head r (back r lt));
      bound = λ r lt. sym (A.bound r (back r lt));
      holds = λ r y lt. sym (A.holds r y (back r lt));
    }

module _ (n m : Nest) (A : Alike n m) where
  pub there : (r : ℕ) → r < n.size → r < m.size
  there r lt = subst (λ k. r < k) A.size lt

  pub true_too : (r y : ℕ) → r < n.size → IsTrue (n.holds r y) → IsTrue (m.holds r y)
  true_too r y lt t = sym (A.holds r y lt) ∙ t

  pub false_too : (r y : ℕ) → r < n.size → IsFalse (n.holds r y) → IsFalse (m.holds r y)
  false_too r y lt t = sym (A.holds r y lt) ∙ t

  pub back_too : (u v : ℕ) → IsBackEdge n u v → IsBackEdge m u v
  back_too u v b = (b.0, there b.0 b.1, true_too b.0 u b.1 b.2, b.3 ∙ A.head b.0 b.1)

  pub leaves_too : (u v r : ℕ) → Leaves n u v r → Leaves m u v r
  leaves_too u v r l = (there r l.0, true_too r u l.0 l.1, false_too r v l.0 l.2)

  -- what the iterations of a region cost, with more or fewer of them
  pub more_turns_too : (r low high : ℕ) (f : ℕ → ℕ) → r < n.size
      → n.bound r * f (n.head r) + low ≤ high → m.bound r * f (m.head r) + low ≤ high
  more_turns_too r low high f lt e =
      subst (λ b. b * f (m.head r) + low ≤ high) (A.bound r lt)
      (subst (λ h. n.bound r * f h + low ≤ high) (A.head r lt) e)

  pub turns_too : (r high : ℕ) (f : ℕ → ℕ) → r < n.size → n.bound r * f (n.head r) ≤ high
      → m.bound r * f (m.head r) ≤ high
  turns_too r high f lt e =
      let moved = more_turns_too r 0 high f lt (omega (arith, e)) in omega (arith, moved)

module _ (n m : Nest) (A : Alike n m) where
  abbrev B : Alike m n
  B = turned n m A

  pub item_too : (v : ℕ) (i : Item) → IsItem n v i → IsItem m v i
  item_too v (Node y) e = (e.0, λ r lt at. e.1 r (there m n B r lt) (at ∙ B.head r lt))
  item_too v (Loop r) e = (there n m A r e.0, e.1 ∙ A.head r e.0)

  last_too : (u v r : ℕ) → LeavesLast n u v r → LeavesLast m u v r
  last_too u v r e = (
    leaves_too n m A u v r e.0,
    λ s l.
        let k = leaves_too m n B u v s l in
        subst (λ h. IsTrue (m.holds r h)) (A.head s k.0)
        (true_too n m A r (n.head s) e.0.0 (e.1 s k)),
  )

  pub way_too : (g : Graph) (x y : ℕ) (between : List ℕ) → IsForwardPath g n x between y
      → IsForwardPath g m x between y
  way_too g x y [] w = (w.0, λ b. w.1 (back_too m n B x y b))
  way_too g x y (z ∷ between) w =
      (way_too g x z between w.0, (w.1.0, λ b. w.1.1 (back_too m n B z y b)))

module _ (g : Graph) (n m : Nest) (A : Alike n m) (c : Costs) (q : Potentials) where
  pub meets_at_too : (u : ℕ) → MeetsAt g n c q u → MeetsAt g m c q u
  meets_at_too u e =
      record {
        edge = e.edge;
        end = e.end;
        inside = λ v i edge no_back no_exit is.
            e.inside v i edge (λ b. no_back (back_too n m A u v b))
            (λ r l. no_exit r (leaves_too n m A u v r l)) (item_too m n (B n m A) v i is);
        exit = λ v r i edge no_back last is.
            let l = last_too m n (B n m A) u v r last in
            let before = e.exit v r i edge (λ b. no_back (back_too n m A u v b)) l
            (item_too m n (B n m A) v i is) in
            let moved = more_turns_too n m A r (c.price u v + item_potential q i) (q.loop r) q.node
            l.0.0 (omega (arith, before)) in
            omega (arith, moved);
      }

  pub meets_too : Meets g n c q → Meets g m c q
  meets_too e =
      record {
        nodes = λ u lt. meets_at_too u (e.nodes u lt);
        loops = λ r lt.
            let l = there m n (B n m A) r lt in turns_too n m A r (q.loop r) q.node l (e.loops r l);
      }
