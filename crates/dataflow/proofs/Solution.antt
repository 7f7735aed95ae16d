-- Values that paths bring, and facts on the way to the solution.
use Rattle.std.proofs.Common.{◌≡◌, ℕ, List, [], ◌∷◌, ◌++◌, Option, Some, None, option_map, map}
use Rattle.std.proofs.Common.{get_or, suc, zero, refl, sym, ap, ◌∙◌, subst, arith, All}
use Rattle.std.proofs.lemmas.List.Elements.{All-append, All-map}
use Rattle.dataflow.specs.Problem.{Problem, problem, IsSemilattice, IsBelow, HasEdge, IsPath, path_value}
use Rattle.dataflow.specs.Problem.{Brings, joined_all, IsFact, IsAtLeast, Solves}
use Rattle.dataflow.specs.Inner.Search.{IsJoinOfPaths}

pub record HasLaws (V : Type 0) (p : Problem V) : Type 0 where
  pub joins : IsSemilattice V p.joined
  pub distributes : (m n : ℕ) (a b : V)
      → p.passed m n (p.joined a b) ≡ p.joined (p.passed m n a) (p.passed m n b)

-- the laws of a problem, from those of its parts
pub laws_of : (V : Type 0) (joined : V → V → V) (passed : ℕ → V → V) (crossed : ℕ → ℕ → V → V)
    (begins : ℕ → Option V) (nodes edges : ℕ) (ends : ℕ → ℕ × ℕ) → IsSemilattice V joined
    → ((n : ℕ) (a b : V) → passed n (joined a b) ≡ joined (passed n a) (passed n b))
    → ((m n : ℕ) (a b : V) → crossed m n (joined a b) ≡ joined (crossed m n a) (crossed m n b))
    → HasLaws V (problem joined passed crossed begins nodes edges ends)
laws_of V joined passed crossed begins nodes edges ends joins distributes crosses = record {
  joins = joins;
  distributes = λ m n a b.
      ap (crossed m n) (distributes m a b) ∙ crosses m n (passed m a) (passed m b);
}

module _ (V : Type 0) (p : Problem V) (laws : HasLaws V p) where
  pub below_self : (a : V) → IsBelow p a a
  below_self a = laws.joins.same a

  pub below_trans : (a b c : V) → IsBelow p a b → IsBelow p b c → IsBelow p a c
  below_trans a b c h k =
      ap (λ x. p.joined a x) (sym k) ∙ sym (laws.joins.grouped a b c) ∙ ap (λ x. p.joined x c) h ∙ k

  pub below_join_left : (a b : V) → IsBelow p a (p.joined a b)
  below_join_left a b = sym (laws.joins.grouped a a b) ∙ ap (λ x. p.joined x b) (laws.joins.same a)

  pub below_join_right : (a b : V) → IsBelow p b (p.joined a b)
  below_join_right a b =
      ap (λ x. p.joined b x) (laws.joins.swapped a b) ∙ below_join_left b a ∙ laws.joins.swapped b a

  pub join_below : (a b c : V) → IsBelow p a c → IsBelow p b c → IsBelow p (p.joined a b) c
  join_below a b c h k = laws.joins.grouped a b c ∙ ap (λ x. p.joined a x) k ∙ h

  pub passed_below : (m n : ℕ) (a b : V) → IsBelow p a b
      → IsBelow p (p.passed m n a) (p.passed m n b)
  passed_below m n a b h = sym (laws.distributes m n a b) ∙ ap (λ x. p.passed m n x) h

  -- a fact at least a value is at least any value below it
  pub at_least_below : (o : Option V) (a b : V) → IsBelow p a b → IsAtLeast p o b → IsAtLeast p o a
  at_least_below o a b h k = (k.0, k.1, below_trans a b k.0 h k.2)

  all_joined : (a : V) (xs : List V) (b : V) (bs : List V)
      → joined_all p.joined a (xs ++ b ∷ bs)
      ≡ p.joined (joined_all p.joined a xs) (joined_all p.joined b bs)
  all_joined a [] b bs = refl
  all_joined a (x ∷ xs) b bs =
      ap (λ y. p.joined a y) (all_joined x xs b bs)
      ∙ sym (laws.joins.grouped a (joined_all p.joined x xs) (joined_all p.joined b bs))

  all_passed : (m n : ℕ) (a : V) (xs : List V)
      → joined_all p.joined (p.passed m n a) (map (p.passed m n) xs)
      ≡ p.passed m n (joined_all p.joined a xs)
  all_passed m n a [] = refl
  all_passed m n a (x ∷ xs) =
      ap (λ y. p.joined (p.passed m n a) y) (all_passed m n x xs)
      ∙ sym (laws.distributes m n a (joined_all p.joined x xs))

  pub brings_on : (m n : ℕ) (v : V) → HasEdge p m n → Brings p m v → Brings p n (p.passed m n v)
  brings_on m n v e b = (m ∷ b.0, (e, b.1), ap (option_map (p.passed m n)) b.2)

  brought_one : (n : ℕ) (v : V) → Brings p n v → All (Brings p n) (v ∷ [])
  brought_one n v b zero d lt = b
  brought_one n v b (suc k) d lt = absurd (omega arith)

  pub of_one : (n : ℕ) (v : V) → Brings p n v → IsJoinOfPaths V p n v
  of_one n v b = record { first = v; rest = []; brought = brought_one n v b; join = refl }

  pub of_join : (n : ℕ) (a b : V) → IsJoinOfPaths V p n a → IsJoinOfPaths V p n b
      → IsJoinOfPaths V p n (p.joined a b)
  of_join n a b h k = record {
    first = h.first;
    rest = h.rest ++ k.first ∷ k.rest;
    brought = All-append (Brings p n) (h.first ∷ h.rest) (k.first ∷ k.rest) h.brought k.brought;
    join =
        all_joined h.first h.rest k.first k.rest
        ∙ ap (λ x. p.joined x (joined_all p.joined k.first k.rest)) h.join
        ∙ ap (λ x. p.joined a x) k.join;
  }

  pub of_passed : (m n : ℕ) (v : V) → HasEdge p m n → IsJoinOfPaths V p m v
      → IsJoinOfPaths V p n (p.passed m n v)
  of_passed m n v e h = record {
    first = p.passed m n h.first;
    rest = map (p.passed m n) h.rest;
    brought =
        All-map (Brings p n) (p.passed m n) (h.first ∷ h.rest)
        (λ k d lt. brings_on m n (get_or (h.first ∷ h.rest) k d) e (h.brought k d lt));
    join = all_passed m n h.first h.rest ∙ ap (p.passed m n) h.join;
  }

  -- a solution is at least what each path brings
  pub above_path : (facts : ℕ → Option V) → Solves V p facts
      → (n : ℕ) (before : List ℕ) (v : V) → IsPath p (n ∷ before)
      → path_value p (n ∷ before) ≡ Some v → IsAtLeast p (facts n) v
  above_path facts s n [] v path e = s.begun n v path e
  above_path facts s n (m ∷ before) v path e =
      passed_on (λ w b. above_path facts s m before w path.1 b) (path_value p (m ∷ before)) refl e
    where
      passed_on : ((w : V) → path_value p (m ∷ before) ≡ Some w → IsAtLeast p (facts m) w)
          → (o : Option V) → path_value p (m ∷ before) ≡ o → option_map (p.passed m n) o ≡ Some v
          → IsAtLeast p (facts n) v
      passed_on above None b q = cc
      passed_on above (Some w) b q =
          let had = above w b in
          let on = s.carried m n had.0 path.0 had.1 in
          let same : p.passed m n w ≡ v = cc in
          subst (λ x. IsAtLeast p (facts n) x) same
          (at_least_below (facts n) (p.passed m n w) (p.passed m n had.0)
          (passed_below m n w had.0 had.2) on)

  pub above_brought : (facts : ℕ → Option V) → Solves V p facts → (n : ℕ) (v : V) → Brings p n v
      → IsAtLeast p (facts n) v
  above_brought facts s n v b = above_path facts s n b.0 v b.1 b.2

  all_below : (c a : V) (xs : List V) → All (λ x. IsBelow p x c) (a ∷ xs)
      → IsBelow p (joined_all p.joined a xs) c
  all_below c a [] h = h 0 a (omega arith)
  all_below c a (x ∷ xs) h =
      join_below a (joined_all p.joined x xs) c (h 0 a (omega arith))
      (all_below c x xs (λ k d lt. h (suc k) d (omega arith)))

  -- facts that are a solution and joins of what paths bring
  pub is_fact : (facts : ℕ → Option V) → Solves V p facts → (n : ℕ)
      → ((v : V) → facts n ≡ Some v → IsJoinOfPaths V p n v) → IsFact p n (facts n)
  is_fact facts s n sound = at (facts n) refl
    where
      at : (o : Option V) → facts n ≡ o → IsFact p n o
      at None e = λ w b. let has = above_brought facts s n w b in cc
      at (Some v) e =
          let h = sound v e in
          record {
            first = h.first;
            rest = h.rest;
            brought = h.brought;
            join = h.join;
            above = λ w b. let has = above_brought facts s n w b in
                let same : has.0 ≡ v = cc in subst (λ x. IsBelow p w x) same has.2;
          }

  -- and then they are below each other solution
  pub is_least : (facts other : ℕ → Option V)
      → ((n : ℕ) (v : V) → facts n ≡ Some v → IsJoinOfPaths V p n v)
      → Solves V p other → (n : ℕ) (v : V) → facts n ≡ Some v → IsAtLeast p (other n) v
  is_least facts other sound s n v e =
      let h = sound n v e in
      let first = above_brought other s n h.first (h.brought 0 h.first (omega arith)) in (
        first.0,
        first.1,
        subst (λ x. IsBelow p x first.0) h.join (all_below first.0 h.first h.rest (λ k d lt.
            let has = above_brought other s n (get_or (h.first ∷ h.rest) k d) (h.brought k d lt) in
            let same : has.0 ≡ first.0 = cc in
            subst (λ x. IsBelow p (get_or (h.first ∷ h.rest) k d) x) same has.2)),
      )
