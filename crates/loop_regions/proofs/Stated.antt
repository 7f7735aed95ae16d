-- What the refusals of loops guarantee.
use Rattle.std.proofs.Common.{◌≡◌, ◌⊎◌, ℕ, zero, suc, ◌<◌, List, [], ◌∷◌, Some, IsTrue, refl, sym}
use Rattle.std.proofs.Common.{ap, ◌∙◌, subst, inl, inr, ⊎_elim, arith, eq-eqb}
use Rattle.std.proofs.lemmas.Bool.{cases_eq, cases_lt, cases_order, cases_Bool, both_ways}
use Rattle.flat_graph.specs.Graph.{Graph, Places}
use Rattle.crpd_base.specs.declared.data.LoopAt.{LoopAt}
use Rattle.flow_watch.specs.Watch.{holds}
use Rattle.loop_regions.specs.Nest.{Nest, IsInside, IsNested}
use Rattle.loop_regions.specs.Stated.{seen_from, holds_seen, IsRegions, HoldsMore}
use Rattle.loop_regions.specs.Stated.{HasNoLoopRefusals, RegionsLaw}

-- a node seen from its own context
pub seen_here : (c : List ℕ) (a : ℕ) → seen_from c c a ≡ Some a
seen_here [] a = refl
seen_here (x ∷ c) a = rw (eq-eqb x x refl) (seen_here c a)

pub loop_holds_head : (l : LoopAt) (a : ℕ) → a ≡ l.head → IsTrue (holds l a)
loop_holds_head l a e = rw (eq-eqb a l.head e)

-- below k, the nodes of r are nodes of s, or r holds one more
pub inside_below : (n : Nest) (r s k : ℕ)
    → ((y : ℕ) → y < k → IsTrue (n.holds r y) → IsTrue (n.holds s y)) ⊎ HoldsMore n r s
inside_below n r s zero = inl (λ y lt h. absurd (omega arith))
inside_below n r s (suc k) =
    ⊎_elim
    (λ below. ⊎_elim
    (λ in_s.
    inl (λ y lt h. ⊎_elim (λ e. subst (λ x. IsTrue (n.holds s x)) (sym e) in_s)
    (λ ne. below y (omega arith) h) (cases_eq y k)))
    (λ out_s. ⊎_elim
    (λ in_r. inr (k, in_r, out_s))
    (λ out_r.
    inl (λ y lt h.
    ⊎_elim (λ e. absurd (both_ways (n.holds r k) out_r (subst (λ x. IsTrue (n.holds r x)) e h)))
    (λ ne. below y (omega arith) h) (cases_eq y k)))
    (cases_Bool (n.holds r k)))
    (cases_Bool (n.holds s k)))
    (λ more. inr more)
    (inside_below n r s k)

-- what a region holds are nodes
pub holds_nodes : (g : Graph) (p : Places) (loops : List LoopAt) (n : Nest) → IsRegions g p loops n
    → (r y : ℕ) → IsTrue (n.holds r y) → y < g.size
holds_nodes g p loops n R r y h =
    ⊎_elim (λ lt. lt) (λ le. absurd (both_ways (n.holds r y) (R.nodes_only r y le) h))
    (cases_lt y g.size)

module _ (g : Graph) (p : Places) (loops : List LoopAt) (n : Nest) (R : IsRegions g p loops n)
    (A : HasNoLoopRefusals g n) where
  holds_head : (r : ℕ) → r < n.size → IsTrue (n.holds r (n.head r))
  holds_head r lt =
      let s = R.stated r lt in
      s.2.holds (n.head r) (R.node r lt)
      ∙ ap (holds_seen s.0) (seen_here (p.context (n.head r)) (p.address (n.head r)))
      ∙ loop_holds_head s.0 (p.address (n.head r)) s.2.head

  inside : (r s : ℕ) → IsInside n r s ⊎ HoldsMore n r s
  inside r s =
      ⊎_elim (λ f. inl (λ y h. f y (holds_nodes g p loops n R r y h) h)) (λ more. inr more)
      (inside_below n r s g.size)

  nested : (r s y : ℕ) → r < n.size → s < n.size → IsTrue (n.holds r y) → IsTrue (n.holds s y)
      → IsInside n r s ⊎ IsInside n s r
  nested r s y r_lt s_lt in_r in_s =
      ⊎_elim
      (λ i. inl i)
      (λ more. ⊎_elim (λ i. inr i)
      (λ more'. absurd (A.nested y (r, s, r_lt, s_lt, in_r, in_s, more, more'))) (inside s r))
      (inside r s)

  is_nested : IsNested g n
  is_nested = record {
    holds_nodes = λ r y lt h. holds_nodes g p loops n R r y h;
    holds_head = holds_head;
    one_head = λ r s r_lt s_lt e.
        ⊎_elim (λ same. same) (λ o.
        ⊎_elim (λ lt. absurd (let h = R.numbered r s lt s_lt in omega (arith, e, h)))
        (λ lt. absurd (let h = R.numbered s r lt r_lt in omega (arith, e, h))) o) (cases_order r s);
    one_entry = λ r u v lt e out h.
        ⊎_elim (λ same. same) (λ ne. absurd (A.one_entry v (r, lt, h, ne, inr (u, e, out))))
        (cases_eq v (n.head r));
    one_start = λ r lt h.
        ⊎_elim (λ same. same) (λ ne. absurd (A.one_entry g.first (r, lt, h, ne, inl refl)))
        (cases_eq g.first (n.head r));
    nested = nested;
  }

pub regions_law : RegionsLaw
regions_law g p loops n R A = is_nested g p loops n R A
