-- Regions that are entered at nodes other than their heads.
use Rattle.std.proofs.Common.{◌≡◌, ◌≢◌, ◌⊎◌, ℕ, ◌+◌, ◌<◌, ◌≤◌, false, not, ◌&&◌, List, [], ◌∷◌}
use Rattle.std.proofs.Common.{◌++◌, length, Some, None, slice_index, IsTrue, refl, sym, subst, ap}
use Rattle.std.proofs.Common.{inl, inr, ⊎_elim, arith, ◌==◌, eq-eqb, Option, nat_lt}
use Rattle.std.specs.List.{list_any}
use Rattle.std.proofs.lemmas.Bool.{cases_eq, both_ways, eqb-true, ltb-true, lt-ltb, and_parts}
use Rattle.std.proofs.lemmas.Bool.{and_from, not-true, not_from_false, false_from_ne_true}
use Rattle.std.proofs.lemmas.List.{get_or_past}
use Rattle.std.proofs.lemmas.List.Elements.{Contains-append_left, Contains-append_cases}
use Rattle.std.proofs.lemmas.List.Elements.{Contains-push}
use Rattle.crpd_base.proofs.Elements.{in_none, in_one}
use Rattle.flat_graph.specs.Graph.{Graph}
use Rattle.loop_regions.specs.Nest.{Nest}
use Rattle.loop_regions.specs.Stated.{IsSecondEntry}
use Rattle.loop_regions.specs.CodeNest.{has, row}
use Rattle.loop_regions.specs.Inner.RegionLists.{AreRegionLists}
use Rattle.loop_regions.specs.Inner.Least.{IsLeastNumber, lesser}
use Rattle.loop_regions.specs.Inner.FoundRegions.{is_head, Enters, EntersFrom, EntersAt}
use Rattle.loop_regions.specs.Inner.FoundRegions.{EntersSome, IsInsideStart}
use Rattle.loop_regions.proofs.Has.{has_any, any_has}
use Rattle.loop_regions.proofs.LeastOf.{nest_by, least_same, least_or}

pub head_is : (heads : List ℕ) (v r : ℕ) → IsTrue (is_head heads v r)
    → (r < length heads) × (slice_index heads r ≡ v)
head_is heads v r h =
    let p = and_parts (nat_lt r (length heads)) (slice_index heads r == v) h in
    (ltb-true r (length heads) p.0, eqb-true (slice_index heads r) v p.1)

pub is_the_head : (heads : List ℕ) (v r : ℕ) → r < length heads → slice_index heads r ≡ v
    → IsTrue (is_head heads v r)
is_the_head heads v r lt e =
    and_from (nat_lt r (length heads)) (slice_index heads r == v) (lt-ltb r (length heads) lt)
    (eq-eqb (slice_index heads r) v e)

pub no_head : (heads : List ℕ) (v r : ℕ) → v ≢ slice_index heads r
    → IsTrue (not (is_head heads v r))
no_head heads v r ne =
    not_from_false (is_head heads v r)
    (false_from_ne_true (is_head heads v r) (λ h. ne (sym (head_is heads v r h).1)))

pub other_head : (heads : List ℕ) (v r : ℕ) → r < length heads → IsTrue (not (is_head heads v r))
    → v ≢ slice_index heads r
other_head heads v r lt h e =
    both_ways (is_head heads v r) (not-true (is_head heads v r) h)
    (is_the_head heads v r lt (sym e))

-- no entry among no nodes
pub enters_none : (n : Nest) (u : ℕ) → IsLeastNumber (EntersSome n u []) None
enters_none n u v s = in_none v s.0

-- the smallest entry with one more node
pub enters_more : (n : Nest) (u v : ℕ) (vs : List ℕ) (a b : Option ℕ)
    → IsLeastNumber (EntersSome n u vs) a → IsLeastNumber (EntersAt n u v) b
    → IsLeastNumber (EntersSome n u (vs ++ v ∷ [])) (lesser a b)
enters_more n u v vs a b h i =
    least_same (λ w. EntersSome n u vs w ⊎ EntersAt n u v w) (EntersSome n u (vs ++ v ∷ []))
    (lesser a b)
    (λ w s. ⊎_elim (λ p. (Contains-append_left vs (v ∷ []) w p.0, p.1))
    (λ q. subst (λ x. EntersSome n u (vs ++ v ∷ []) x) (sym q.0) (Contains-push vs v, q.1)) s)
    (λ w s. ⊎_elim (λ c. inl (c, s.1))
    (λ c. let e = sym (in_one w v c) in inr (e, subst (λ x. Enters n u x) e s.1))
    (Contains-append_cases vs (v ∷ []) w s.0))
    (least_or (EntersSome n u vs) (EntersAt n u v) a b h i)

-- the smallest entry among all successors
pub enters_all : (g : Graph) (n : Nest) (u : ℕ) (o : Option ℕ) → u < g.size
    → IsLeastNumber (EntersSome n u (g.next u)) o → IsLeastNumber (EntersFrom g n u) o
enters_all g n u o lt h =
    least_same (EntersSome n u (g.next u)) (EntersFrom g n u) o (λ v s. ((lt, s.0), s.1))
    (λ v e. (e.0.1, e.1)) h

module _ (heads bounds : List ℕ) (holders : List (List ℕ))
    (S : AreRegionLists heads holders) where
  pub enters_from : (u v : ℕ)
      → IsTrue
      (list_any (λ q. not (is_head heads v q) && not (has (row holders u) q)) (row holders v))
      → Enters (nest_by heads bounds holders) u v
  enters_from u v h =
      let f = has_any (λ q. not (is_head heads v q) && not (has (row holders u) q))
      (row holders v) h in
      let p = and_parts (not (is_head heads v f.0)) (not (has (row holders u) f.0)) f.2 in
      let lt = S.within v f.0 f.1 in
      (f.0, lt, f.1, other_head heads v f.0 lt p.0, not-true (has (row holders u) f.0) p.1)

  pub entered : (u v : ℕ) → Enters (nest_by heads bounds holders) u v
      → IsTrue
      (list_any (λ q. not (is_head heads v q) && not (has (row holders u) q)) (row holders v))
  entered u v e =
      any_has (λ q. not (is_head heads v q) && not (has (row holders u) q)) (row holders v) e.0 e.2
      (and_from (not (is_head heads v e.0)) (not (has (row holders u) e.0))
      (no_head heads v e.0 e.3) (not_from_false (has (row holders u) e.0) e.4))

  pub entered_here : (u v : ℕ)
      → IsTrue
      (list_any (λ q. not (is_head heads v q) && not (has (row holders u) q)) (row holders v))
      → IsLeastNumber (EntersAt (nest_by heads bounds holders) u v) (Some v)
  entered_here u v h = ((refl, enters_from u v h), λ b s. let e = s.0 in omega (arith, e))

  pub not_entered : (u v : ℕ)
      → list_any (λ q. not (is_head heads v q) && not (has (row holders u) q)) (row holders v)
      ≡ false → IsLeastNumber (EntersAt (nest_by heads bounds holders) u v) None
  not_entered u v h b s =
      both_ways
      (list_any (λ q. not (is_head heads v q) && not (has (row holders u) q)) (row holders v)) h
      (entered u v s.1)

-- the first node is entered as by an edge from a number that is no node
pub start_entered : (g : Graph) (heads bounds : List ℕ) (holders : List (List ℕ)) (o : Option ℕ)
    → length holders ≡ g.size
    → IsLeastNumber (EntersAt (nest_by heads bounds holders) g.size g.first) o
    → IsLeastNumber (IsInsideStart g (nest_by heads bounds holders)) o
start_entered g heads bounds holders o e h =
    let n = nest_by heads bounds holders in
    least_same (EntersAt n g.size g.first) (IsInsideStart g n) o
    (λ v s. subst (λ w. IsInsideStart g n w) (sym s.0) (refl, s.1.0, s.1.1, s.1.2, s.1.3))
    (λ v s. (
      s.0,
      (
        s.1,
        s.2,
        subst (λ w. IsTrue (n.holds s.1 w)) s.0 s.3,
        subst (λ w. w ≢ n.head s.1) s.0 s.4,
        ap (λ xs. has xs s.1) (get_or_past holders g.size [] (omega (arith, e))),
      ),
    ))
    h

-- an entry at the first node, or by an edge from a node below k
abbrev pub IsEntryBelow : Graph → Nest → ℕ → ℕ → Type 0
IsEntryBelow g n k v = IsInsideStart g n v ⊎ ((u : ℕ) × (u < k) × EntersFrom g n u v)

pub first_entry : (g : Graph) (n : Nest) (o : Option ℕ) → IsLeastNumber (IsInsideStart g n) o
    → IsLeastNumber (IsEntryBelow g n 0) o
first_entry g n o h =
    least_same (IsInsideStart g n) (IsEntryBelow g n 0) o (λ v s. inl s)
    (λ v s. ⊎_elim (λ t. t) (λ t. absurd (omega (arith, t.1))) s) h

pub next_entry : (g : Graph) (n : Nest) (k : ℕ) (a b : Option ℕ)
    → IsLeastNumber (IsEntryBelow g n k) a → IsLeastNumber (EntersFrom g n k) b
    → IsLeastNumber (IsEntryBelow g n (k + 1)) (lesser a b)
next_entry g n k a b h i =
    least_same (λ v. IsEntryBelow g n k v ⊎ EntersFrom g n k v) (IsEntryBelow g n (k + 1))
    (lesser a b)
    (λ v s. ⊎_elim (λ p. ⊎_elim (λ t. inl t) (λ t. inr (t.0, omega (arith, t.1), t.2)) p)
    (λ q. inr (k, omega arith, q)) s)
    (λ v s. ⊎_elim (λ t. inl (inl t))
    (λ t. ⊎_elim (λ e. inr (subst (λ u. EntersFrom g n u v) e t.2))
    (λ ne. inl (inr (t.0, omega (arith, t.1), t.2))) (cases_eq t.0 k)) s)
    (least_or (IsEntryBelow g n k) (EntersFrom g n k) a b h i)

pub all_entries : (g : Graph) (n : Nest) (k : ℕ) (o : Option ℕ) → g.size ≤ k
    → IsLeastNumber (IsEntryBelow g n k) o → IsLeastNumber (IsSecondEntry g n) o
all_entries g n k o le h =
    least_same (IsEntryBelow g n k) (IsSecondEntry g n) o
    (λ v s. ⊎_elim (λ t. (t.1, t.2, t.3, t.4, inl t.0)) (λ t. let e = t.2.1 in
    (e.0, e.1, e.2, e.3, inr (t.0, t.2.0, e.4))) s)
    (λ v s. ⊎_elim (λ t. inl (t, s.0, s.1, s.2, s.3))
    (λ t. inr (t.0, (let lt = t.1.0 in omega arith), (t.1, (s.0, s.1, s.2, s.3, t.2)))) s.4)
    h
