-- A state of which the blocks of some sets are forgotten, set by set.
use Rattle.std.proofs.Common.{◌≡◌, ◌≢◌, ℕ, ◌+◌, ◌<◌, ◌≤◌, if◌then◌else◌, Bool, true, false}
use Rattle.std.proofs.Common.{List, length, set, None, refl, sym, ◌∙◌, subst, ⊎_elim, arith}
use Rattle.std.proofs.Common.{get_or-set_same, get_or-set_other}
use Rattle.std.proofs.lemmas.Bool.{cases_eq, cases_lt}
use Rattle.std.proofs.lemmas.List.{get_or_past}
use Rattle.crpd_base.specs.Sets.{has}
use Rattle.icache.specs.Cache.{Cache, held}

pub record AreForgottenBelow (sets : List ℕ) (init now : Cache) (i : ℕ) : Type 0 where
  pub done : (k : ℕ) → k < i → held now k ≡ (if has sets k then None else held init k)
  pub others : (k : ℕ) → i ≤ k → held now k ≡ held init k

pub none_forgotten : (sets : List ℕ) (init : Cache) → AreForgottenBelow sets init init 0
none_forgotten sets init = record {
  done = λ k lt. absurd (omega arith);
  others = λ k le. refl;
}

module _ (sets : List ℕ) (init now : Cache) (i : ℕ) (h : AreForgottenBelow sets init now i) where
  pub forget_one : i < length now → has sets i ≡ true
      → AreForgottenBelow sets init (set now i None) (i + 1)
  forget_one within t = record {
    done = λ k lt. ⊎_elim
        (λ (e : k ≡ i). subst
        (λ n. held (set now i None) n ≡ (if has sets n then None else held init n)) (sym e)
        (get_or-set_same now i None None within ∙ sym (rw t refl)))
        (λ (ne : k ≢ i). get_or-set_other now i k None None ne ∙ h.done k (omega arith))
        (cases_eq k i);
    others = λ k le. get_or-set_other now i k None None (λ e. omega arith) ∙ h.others k (omega arith);
  }

  pub keep_one : has sets i ≡ false → AreForgottenBelow sets init now (i + 1)
  keep_one f = record {
    done = λ k lt. ⊎_elim
        (λ (e : k ≡ i). subst
        (λ n. held now n ≡ (if has sets n then None else held init n)) (sym e)
        (h.others i (omega arith) ∙ sym (rw f refl)))
        (λ (ne : k ≢ i). h.done k (omega arith))
        (cases_eq k i);
    others = λ k le. h.others k (omega arith);
  }

  pub all_forgotten : (n : ℕ) → i ≡ n → length init ≡ n
      → (k : ℕ) → held now k ≡ (if has sets k then None else held init k)
  all_forgotten n last count k = ⊎_elim
      (λ (lt : k < n). h.done k (omega arith))
      (λ (le : n ≤ k).
      let none : held init k ≡ None = get_or_past init k None (omega arith) in
      h.others k (omega arith) ∙ none ∙ sym (either (has sets k) none))
      (cases_lt k n)
    where
      either : (b : Bool) → held init k ≡ None → (if b then None else held init k) ≡ None
      either true none = refl
      either false none = none
