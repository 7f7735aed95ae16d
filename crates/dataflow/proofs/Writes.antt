-- A step, as what is written to the lists of facts and of waiting nodes.
use Rattle.std.proofs.Common.{◌≡◌, ◌≢◌, ℕ, ◌<◌, List, Option, Some, None, option_map, length}
use Rattle.std.proofs.Common.{get_or, set, Bool, true, false, IsTrue, MatchBool, cond, ◌≤◌, refl}
use Rattle.std.proofs.Common.{sym, ap, ◌∙◌, subst, inl, inr, ⊎_elim, get_or-set_same}
use Rattle.std.proofs.Common.{get_or-set_other}
use Rattle.std.proofs.lemmas.Bool.{cases_eq}
use Rattle.dataflow.specs.Problem.{Problem, fact_at}
use Rattle.dataflow.specs.Inner.Search.{waits, absorbed, AbsorbsAt, rank, work_left}
use Rattle.dataflow.proofs.Left.{left_risen, left_same}
use Rattle.std.proofs.lemmas.List.{get_or_default, length-set}

-- the fact at t rose to o and t now waits, or neither changed
pub data Outcome (F V : Type 0) (view : F → V) (height : V → ℕ) (facts : List (Option F))
    (waiting woken : List Bool) (t : ℕ) (o : Option F) : Type 0 where
  risen : woken ≡ set waiting t true
      → rank height (fact_at view facts t) < rank height (option_map view o)
      → Outcome F V view height facts waiting woken t o
  stayed : woken ≡ waiting → option_map view o ≡ fact_at view facts t
      → Outcome F V view height facts waiting woken t o

-- the outcome by what a join returned, read at any default
pub outcome_of : (F V : Type 0) (view : F → V) (height : V → ℕ) (facts : List (Option F))
    (waiting woken : List Bool) (t : ℕ) (o d : Option F) (changed b : Bool)
    → t < length facts
    → MatchBool changed (rank height (option_map view (get_or facts t d))
    < rank height (option_map view o)) (option_map view o ≡ option_map view (get_or facts t d))
    → changed ≡ b → woken ≡ cond b (set waiting t true) waiting
    → Outcome F V view height facts waiting woken t o
outcome_of F V view height facts waiting woken t o d changed true lt h is w =
    let read = get_or_default facts t d None lt in
    let rises = subst
    (λ x. MatchBool x (rank height (option_map view (get_or facts t d))
    < rank height (option_map view o)) (option_map view o ≡ option_map view (get_or facts t d))) is
    h in
    risen w (subst (λ q. rank height (option_map view q) < rank height (option_map view o)) read
    rises)
outcome_of F V view height facts waiting woken t o d changed false lt h is w =
    let read = get_or_default facts t d None lt in
    let same = subst
    (λ x. MatchBool x (rank height (option_map view (get_or facts t d))
    < rank height (option_map view o)) (option_map view o ≡ option_map view (get_or facts t d))) is
    h in
    stayed w (same ∙ ap (option_map view) read)

pub woken_length : (F V : Type 0) (view : F → V) (height : V → ℕ) (facts : List (Option F))
    (waiting woken : List Bool) (t : ℕ) (o : Option F)
    → Outcome F V view height facts waiting woken t o → length woken ≡ length waiting
woken_length F V view height facts waiting woken t o (risen e r) =
    ap length e ∙ length-set waiting t true
woken_length F V view height facts waiting woken t o (stayed e s) = ap length e

pub left_falls : (F V : Type 0) (view : F → V) (height : V → ℕ) (tallest : ℕ)
    → ((v : V) → height v ≤ tallest)
    → (facts : List (Option F)) (waiting woken : List Bool) (t : ℕ) (o : Option F)
    → t < length facts → t < length waiting
    → Outcome F V view height facts waiting woken t o
    → work_left view height tallest (set facts t o) woken
    ≤ work_left view height tallest facts waiting
left_falls F V view height tallest bounded facts waiting woken t o lt ltw (risen e r) =
    subst (λ w. work_left view height tallest (set facts t o) w
    ≤ work_left view height tallest facts waiting) (sym e)
    (left_risen F V view height tallest bounded facts waiting t o lt ltw r)
left_falls F V view height tallest bounded facts waiting woken t o lt ltw (stayed e s) =
    subst (λ w. work_left view height tallest (set facts t o) w
    ≤ work_left view height tallest facts waiting) (sym e)
    (left_same F V view height tallest bounded facts waiting t o lt s)

module _ (F V : Type 0) (view : F → V) (p : Problem V) (facts : List (Option F))
    (waiting : List Bool) (t : ℕ) (u : V) (o : Option F) (in_facts : t < length facts)
    (comes : option_map view o ≡ Some (absorbed p.joined (fact_at view facts t) u)) where
  fact_other : (n : ℕ) → n ≢ t → fact_at view (set facts t o) n ≡ fact_at view facts n
  fact_other n ne = ap (option_map view) (get_or-set_other facts t n o None ne)

  fact_here : fact_at view (set facts t o) t ≡ option_map view o
  fact_here = ap (option_map view) (get_or-set_same facts t o None in_facts)

  still_waits : t < length waiting → (n : ℕ) → IsTrue (waits waiting n)
      → IsTrue (waits (set waiting t true) n)
  still_waits lt n w = ⊎_elim
      (λ (e : n ≡ t). subst (λ i. IsTrue (waits (set waiting t true) i)) (sym e)
      (subst (λ b. IsTrue b) (sym (get_or-set_same waiting t true false lt)) refl))
      (λ (ne : n ≢ t). subst (λ b. IsTrue b) (sym (get_or-set_other waiting t n true false ne)) w)
      (cases_eq n t)

  pub step_risen : t < length waiting
      → AbsorbsAt V p (fact_at view facts) (fact_at view (set facts t o)) (waits waiting)
      (waits (set waiting t true)) t u
  step_risen lt = record {
    others = fact_other;
    here = fact_here ∙ comes;
    kept = still_waits lt;
    changed = inl (subst (λ b. IsTrue b) (sym (get_or-set_same waiting t true false lt)) refl);
  }

  pub step_same : option_map view o ≡ fact_at view facts t
      → AbsorbsAt V p (fact_at view facts) (fact_at view (set facts t o)) (waits waiting)
      (waits waiting) t u
  step_same same = record {
    others = fact_other;
    here = fact_here ∙ comes;
    kept = λ n w. w;
    changed = inr (fact_here ∙ same);
  }

  pub step_of : (height : V → ℕ) (woken : List Bool) → t < length waiting
      → Outcome F V view height facts waiting woken t o
      → AbsorbsAt V p (fact_at view facts) (fact_at view (set facts t o)) (waits waiting)
      (waits woken) t u
  step_of height woken lt (risen e r) =
      subst (λ w. AbsorbsAt V p (fact_at view facts) (fact_at view (set facts t o)) (waits waiting)
      (waits w) t u) (sym e) (step_risen lt)
  step_of height woken lt (stayed e s) =
      subst (λ w. AbsorbsAt V p (fact_at view facts) (fact_at view (set facts t o)) (waits waiting)
      (waits w) t u) (sym e) (step_same s)
