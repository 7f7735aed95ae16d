-- Forward edges, ranks that decrease along them, and the search along them.
use Rattle.std.proofs.Common.{◌≡◌, ◌⊎◌, ◌↔◌, ℕ, zero, suc, ◌+◌, ◌<◌, ◌≤◌, Bool, true, false, List}
use Rattle.std.proofs.Common.{[], ◌∷◌, ◌++◌, ◌==◌, length, set, slice_index, IsTrue, refl, sym, ap}
use Rattle.std.proofs.Common.{◌∙◌, subst, inl, inr, ⊎_elim, arith, length-append, eq-eqb}
use Rattle.std.proofs.Common.{get_or-set_same, get_or-set_other, All}
use Rattle.std.proofs.Math.Logic.{⊎_map}
use Rattle.std.proofs.lemmas.Bool.{cases_eq, both_ways, false≢true, eqb-true, or_cases, or_left}
use Rattle.std.proofs.lemmas.Bool.{or_right}
use Rattle.std.proofs.lemmas.List.{length-set}
use Rattle.flat_graph.specs.Graph.{Graph}
use Rattle.flat_graph.proofs.Nexts.{all_at_edges}
use Rattle.loop_regions.specs.Nest.{Nest, IsBackEdge}
use Rattle.loop_regions.specs.Stated.{IsForward, IsForwardPath, IsOnCycle}
use Rattle.loop_regions.specs.CodeNest.{has}
use Rattle.loop_regions.specs.Inner.ForwardPaths.{Reaches, was_seen, IsFollowed, IsSearch}
use Rattle.loop_regions.specs.Inner.ForwardPaths.{unseen, to_search}
use Rattle.loop_regions.proofs.Has.{has_more, has_pushed, has_push_cases, has_turned}

-- ranks that decrease along forward edges leave no cycle
module _ (g : Graph) (n : Nest) (ranks : List ℕ)
    (F : (u v : ℕ) → IsForward g n u v → slice_index ranks v < slice_index ranks u) where
  lower : (y : ℕ) (between : List ℕ) (z : ℕ) → IsForwardPath g n y between z
      → slice_index ranks z < slice_index ranks y
  lower y [] z way = F y z way
  lower y (x ∷ before) z way = let a = lower y before x way.0 in let b = F x z way.1 in omega arith

  pub no_cycle : (y : ℕ) → IsOnCycle g n y → ⊥
  no_cycle y c = absurd (let lt = lower y c.0 y c.1 in omega arith)

-- ranks decrease along all edges of the nodes below k
pub falls_more : (g : Graph) (n : Nest) (ranks : List ℕ) (k : ℕ)
    → All (λ v. (IsBackEdge n k v → ⊥) → slice_index ranks v < slice_index ranks k) (g.next k)
    → ((u v : ℕ) → u < k → IsForward g n u v → slice_index ranks v < slice_index ranks u)
    → (u v : ℕ) → u < k + 1 → IsForward g n u v → slice_index ranks v < slice_index ranks u
falls_more g n ranks k all R u v lt f =
    ⊎_elim
    (λ e. subst (λ x. slice_index ranks v < slice_index ranks x) (sym e)
    (at (subst (λ x. IsForward g n x v) e f)))
    (λ ne. R u v (omega arith) f)
    (cases_eq u k)
  where
    at : IsForward g n k v → slice_index ranks v < slice_index ranks k
    at w =
        all_at_edges g k (λ x. (IsBackEdge n k x → ⊥) → slice_index ranks x < slice_index ranks k)
        all v w.0 w.1

unseen_set : (seen : List Bool) (v : ℕ) → v < length seen → was_seen seen v ≡ false
    → suc (unseen (set seen v true)) ≡ unseen seen
unfolding unseen
unseen_set [] v lt h = absurd (omega arith)
unseen_set (true ∷ seen) zero lt h = absurd (both_ways true h refl)
unseen_set (false ∷ seen) zero lt h = refl
unseen_set (true ∷ seen) (suc v) lt h = unseen_set seen v (omega arith) h
unseen_set (false ∷ seen) (suc v) lt h = ap suc (unseen_set seen v (omega arith) h)

pub search_falls : (seen : List Bool) (waiting : List ℕ) (v : ℕ) → v < length seen
    → was_seen seen v ≡ false
    → to_search (set seen v true) (waiting ++ v ∷ []) ≤ to_search seen waiting
search_falls seen waiting v lt h =
    omega (arith, unseen_set seen v lt h, length-append waiting (v ∷ []))

pub seen_stays : (seen : List Bool) (v w : ℕ) → v < length seen → IsTrue (was_seen seen w)
    → IsTrue (was_seen (set seen v true) w)
seen_stays seen v w lt h = ⊎_elim
    (λ is. subst (λ x. IsTrue (was_seen (set seen v true) x)) (sym is)
    (get_or-set_same seen v true false lt))
    (λ ne. get_or-set_other seen v w true false ne ∙ h)
    (cases_eq w v)

seen_before : (seen : List Bool) (v w : ℕ) → IsTrue (was_seen (set seen v true) w)
    → (w ≡ v) ⊎ IsTrue (was_seen seen w)
seen_before seen v w h =
    ⊎_elim (λ is. inl is) (λ ne. inr (sym (get_or-set_other seen v w true false ne) ∙ h))
    (cases_eq w v)

module _ (g : Graph) (n : Nest) (y : ℕ) where
  -- a waiting node is taken
  pub taken : (seen : List Bool) (waiting : List ℕ) (u : ℕ)
      → IsSearch g n y seen (waiting ++ u ∷ []) → IsSearch g n y seen (u ∷ waiting)
  taken seen waiting u R = record {
    nodes = R.nodes;
    sound = R.sound;
    own = λ w h. R.own w (has_turned waiting u w ∙ h);
    followed = λ w v m f.
        ⊎_map (λ t. t) (λ h. sym (has_turned waiting u w) ∙ h) (R.followed w v m f);
  }

  -- the target of a forward edge of a waiting node is found
  pub edge_found : (seen : List Bool) (waiting : List ℕ) (u v : ℕ) → v < length seen
      → IsForward g n u v → IsSearch g n y seen (u ∷ waiting)
      → IsSearch g n y (set seen v true) (u ∷ (waiting ++ v ∷ []))
  edge_found seen waiting u v lt f R = record {
    nodes = length-set seen v true ∙ R.nodes;
    sound = λ w s.
        ⊎_elim (λ is. subst (Reaches g n y) (sym is) reached) (R.sound w) (seen_before seen v w s);
    own = λ w s.
        ⊎_elim (R.own w)
        (λ is. subst (λ x. (x < g.size) × ((x ≡ y) ⊎ Reaches g n y x)) is
        (subst (λ k. v < k) R.nodes lt, inr reached))
        (has_push_cases (u ∷ waiting) v w s);
    followed = λ w x m e.
        ⊎_elim
        (λ old. ⊎_map (seen_stays seen v x lt) (has_more (u ∷ waiting) (v ∷ []) w)
        (R.followed w x old e))
        (λ is. inr
        (subst (λ z. IsTrue (has (u ∷ (waiting ++ v ∷ [])) z)) (sym is)
        (has_pushed (u ∷ waiting) v)))
        (met_before w m);
  }
    where
      reached : Reaches g n y v
      reached = ⊎_elim
          (λ is. ([], subst (λ x. IsForward g n x v) is f))
          (λ way. (u ∷ way.0, (way.1, f)))
          (R.own u (or_left (u == u) (has waiting u) (eq-eqb u u refl))).1

      met_before : (w : ℕ) → (w ≡ y) ⊎ IsTrue (was_seen (set seen v true) w)
          → ((w ≡ y) ⊎ IsTrue (was_seen seen w)) ⊎ (w ≡ v)
      met_before w m =
          ⊎_elim (λ is. inl (inl is))
          (λ s. ⊎_elim (λ is. inr is) (λ t. inl (inr t)) (seen_before seen v w s)) m

  -- all edges of a node were followed
  pub all_followed : (seen : List Bool) (waiting : List ℕ) (u : ℕ)
      → All (IsFollowed g n seen u) (g.next u)
      → IsSearch g n y seen (u ∷ waiting) → IsSearch g n y seen waiting
  all_followed seen waiting u all R = record {
    nodes = R.nodes;
    sound = R.sound;
    own = λ w h. R.own w (or_right (u == w) (has waiting w) h);
    followed = λ w v m f.
        ⊎_elim (λ t. inl t)
        (λ h. ⊎_elim
        (λ e. let from = subst (λ x. IsForward g n x v) (sym (eqb-true u w e)) f in
        inl (all_at_edges g u (IsFollowed g n seen u) all v from.0 from))
        (λ t. inr t)
        (or_cases (u == w) (has waiting w) h))
        (R.followed w v m f);
  }

  -- once no node waits, each node on a path has been seen
  edge_seen : (seen : List Bool) (u v : ℕ) → IsSearch g n y seen []
      → (u ≡ y) ⊎ IsTrue (was_seen seen u) → IsForward g n u v → IsTrue (was_seen seen v)
  edge_seen seen u v R m f =
      ⊎_elim (λ t. t) (λ h. absurd (false≢true h)) (R.followed u v m f)

  along : (seen : List Bool) (between : List ℕ) (z : ℕ) → IsSearch g n y seen []
      → IsForwardPath g n y between z → IsTrue (was_seen seen z)
  along seen [] z R way = edge_seen seen y z R (inl refl) way
  along seen (x ∷ before) z R way = edge_seen seen x z R (inr (along seen before x R way.0)) way.1

  pub found_cycle : (seen : List Bool) → IsSearch g n y seen []
      → IsTrue (was_seen seen y) ↔ IsOnCycle g n y
  found_cycle seen R = (R.sound y, λ c. along seen c.0 y R c.1)

-- a node on a cycle is a node
pub cycle_within : (g : Graph) (n : Nest) (y : ℕ) → IsOnCycle g n y → y < g.size
cycle_within g n y c = first c.0 y c.1
  where
    first : (between : List ℕ) (z : ℕ) → IsForwardPath g n y between z → y < g.size
    first [] z way = way.0.0
    first (x ∷ before) z way = first before x way.0
