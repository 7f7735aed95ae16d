-- The regions of stated loops, from the heads and the holders that were found.
use Rattle.std.proofs.Common.{◌≡◌, ◌↔◌, ℕ, zero, suc, ◌<◌, ◌≤◌, List, [], ◌∷◌, length, Some}
use Rattle.std.proofs.Common.{slice_get, slice_index, get_or, IsTrue, IsFalse, refl, sym, ap, ◌∙◌}
use Rattle.std.proofs.Common.{subst, ⊎_elim, arith}
use Rattle.std.proofs.lemmas.Bool.{cases_lt, both_ways}
use Rattle.std.proofs.lemmas.List.{length-map, get_or-map}
use Rattle.std.proofs.lemmas.Option.{slice_get_within, slice_get-get_or, get_or_from_slice_get}
use Rattle.std.specs.Cmp.{both_ways as same_tests}
use Rattle.crpd_base.specs.declared.data.LoopAt.{LoopAt}
use Rattle.flat_graph.specs.Graph.{Graph, Places}
use Rattle.loop_regions.specs.Stated.{holds_seen, region_holds, IsRegionOf, IsRegions}
use Rattle.loop_regions.specs.CodeNest.{has, row}
use Rattle.loop_regions.specs.Inner.Heads.{AreHeads, IsHeldBy, nodes_of, bounds_of}
use Rattle.loop_regions.specs.Inner.RegionLists.{AreRegionLists}
use Rattle.loop_regions.specs.declared.heads.Head.{Head}
use Rattle.loop_regions.proofs.LeastOf.{nest_by}
use Rattle.loop_regions.proofs.Stated.{seen_here, loop_holds_head}

pub past_end : (rows : List (List ℕ)) (y : ℕ) → length rows ≤ y → row rows y ≡ []
past_end [] y le = refl
past_end (x ∷ rows) zero le = absurd (omega arith)
past_end (x ∷ rows) (suc y) le = past_end rows y (omega arith)

-- no region holds a number that is no node
pub none_past : (rows : List (List ℕ)) (y r : ℕ) → length rows ≤ y → IsFalse (has (row rows y) r)
none_past rows y r le = ap (λ xs. has xs r) (past_end rows y le)

module _ (g : Graph) (p : Places) (loops : List LoopAt) (heads : List Head)
    (holders : List (List ℕ))
    (few_nodes : g.size ≤ 16384)
    (H : AreHeads p loops g.size heads)
    (S : length holders ≡ g.size)
    (K : (y r : ℕ) → y < g.size → IsTrue (has (row holders y) r) ↔ IsHeldBy p loops heads y r) where
  all_nodes : length (nodes_of heads) ≡ length heads
  all_nodes = length-map heads (λ h. h.node)

  -- the head of a region, and its loop
  record Of (r : ℕ) : Type 0 where
    h : Head
    l : LoopAt
    here : slice_get heads r ≡ Some h
    there : slice_get loops h.stated ≡ Some l
    at : p.address h.node ≡ l.head
    node : slice_index (nodes_of heads) r ≡ h.node
    bound : slice_index (bounds_of heads) r ≡ l.bound

  of : (r : ℕ) → r < length (nodes_of heads) → Of r
  of r lt =
      let none : Head = record { node = 0; stated = 0; bound = 0 } in
      let within = subst (λ n. r < n) all_nodes lt in
      let e = slice_get-get_or heads r none within in
      let s = H.stated r (get_or heads r none) e in
      record {
        h = get_or heads r none;
        l = s.0;
        here = e;
        there = s.1;
        at = s.2;
        node = get_or-map (λ (h : Head). h.node) heads r none 0 within;
        bound = get_or-map (λ (h : Head). h.bound) heads r none 0 within ∙ s.3;
      }

  held : (y r : ℕ) → y < g.size → (o : Of r) → IsTrue (region_holds p o.l (p.context o.h.node) y)
      → IsTrue (has (row holders y) r)
  held y r lt o t = (K y r lt).1 (o.h, o.l, o.here, o.there, t)

  holds_by : (y r : ℕ) → y < g.size → (o : Of r) → IsTrue (has (row holders y) r)
      → IsTrue (region_holds p o.l (p.context o.h.node) y)
  holds_by y r lt o t =
      let by = (K y r lt).0 t in
      let hs : Some by.0 ≡ Some o.h = sym by.2 ∙ o.here in
      let same : by.0 ≡ o.h = cc in
      let ls : Some by.1 ≡ Some o.l = sym by.3 ∙ ap (λ (x : Head). slice_get loops x.stated) same
      ∙ o.there in
      let same_loop : by.1 ≡ o.l = cc in
      subst (λ (x : LoopAt). IsTrue (region_holds p x (p.context o.h.node) y)) same_loop
      (subst (λ (x : Head). IsTrue (region_holds p by.1 (p.context x.node) y)) same by.4)

  pub is_sound : AreRegionLists (nodes_of heads) holders
  is_sound = record {
    few = let f = H.few in omega (arith, all_nodes);
    few_nodes = omega arith;
    head_nodes = λ r lt.
        let o = of r lt in let w = H.node r o.h o.here in let e = o.node in omega arith;
    holds_head = λ r lt.
        let o = of r lt in
        let w = H.node r o.h o.here in
        subst (λ y. IsTrue (has (row holders y) r)) (sym o.node)
        (held o.h.node r w o
        (ap (holds_seen o.l) (seen_here (p.context o.h.node) (p.address o.h.node))
        ∙ loop_holds_head o.l (p.address o.h.node) o.at));
    within = λ y r t. ⊎_elim
        (λ lt. let by = (K y r lt).0 t in let w = slice_get_within heads r by.0 by.2 in
        omega (arith, all_nodes))
        (λ le. absurd
        (both_ways (has (row holders y) r)
        (none_past holders y r (subst (λ n. n ≤ y) (sym S) le)) t))
        (cases_lt y g.size);
  }

  is_region : (r : ℕ) → (o : Of r)
      → IsRegionOf g p (nest_by (nodes_of heads) (bounds_of heads) holders) r o.l
  is_region r o = record {
    head = ap p.address o.node ∙ o.at;
    bound = o.bound;
    holds = λ y lt.
        subst (λ z. has (row holders y) r ≡ region_holds p o.l (p.context z) y) (sym o.node)
        (same_tests (has (row holders y) r) (region_holds p o.l (p.context o.h.node) y)
        (holds_by y r lt o) (held y r lt o));
  }

  pub is_regions : IsRegions g p loops (nest_by (nodes_of heads) (bounds_of heads) holders)
  is_regions = record {
    node = λ r lt. let o = of r lt in subst (λ y. y < g.size) (sym o.node) (H.node r o.h o.here);
    numbered = λ r s lt s_lt.
        let o = of r (omega arith) in
        let q = of s s_lt in
        let w = H.numbered r s o.h q.h lt o.here q.here in
        let e = o.node in let f = q.node in omega arith;
    stated = λ r lt.
        let o = of r lt in (
          o.l,
          (
            o.h.stated,
            slice_get_within loops o.h.stated o.l o.there,
            get_or_from_slice_get loops o.h.stated o.l o.l o.there,
          ),
          is_region r o,
        );
    all = λ l y c lt e.
        let a = H.all l y c lt e in
        let w = slice_get_within heads a.0 a.1 a.2 in
        let o = of a.0 (omega (arith, all_nodes)) in
        let hs : Some o.h ≡ Some a.1 = sym o.here ∙ a.2 in
        let same : o.h ≡ a.1 = cc in
        (a.0, omega (arith, all_nodes), o.node ∙ ap (λ (x : Head). x.node) same ∙ a.3);
    nodes_only = λ r y le. none_past holders y r (subst (λ n. n ≤ y) (sym S) le);
  }

-- the same for lists that equal those of the heads
pub found : (g : Graph) (p : Places) (loops : List LoopAt) (old a heads : List Head)
    (holders holders' : List (List ℕ))
    → g.size ≤ 16384 → AreHeads p loops g.size old → a ≡ old → heads ≡ old
    → holders ≡ holders' → length holders' ≡ g.size
    → ((y r : ℕ) → y < g.size → IsTrue (has (row holders' y) r) ↔ IsHeldBy p loops a y r)
    → AreRegionLists (nodes_of heads) holders
    × IsRegions g p loops (nest_by (nodes_of heads) (bounds_of heads) holders)
found g p loops old a heads holders holders' few H ea eh h S K =
    let here = subst (AreHeads p loops g.size) (sym eh) H in
    let same : a ≡ heads = ea ∙ sym eh in
    let held : (y r : ℕ) → y < g.size
    → IsTrue (has (row holders y) r) ↔ IsHeldBy p loops heads y r =
    λ y r lt. (
      (λ t. subst (λ xs. IsHeldBy p loops xs y r) same
          ((K y r lt).0 (subst (λ xs. IsTrue (has (row xs y) r)) h t))),
      (λ t. subst (λ xs. IsTrue (has (row xs y) r)) (sym h)
          ((K y r lt).1 (subst (λ xs. IsHeldBy p loops xs y r) (sym same) t))),
    )
    in
    let full = ap length h ∙ S in (
      is_sound g p loops heads holders few here full held,
      is_regions g p loops heads holders few here full held,
    )
