-- What one state knows put into another, and its sets removed from a set of numbers, set by set.
use Rattle.std.proofs.Common.{◌≡◌, ◌≢◌, ℕ, ◌+◌, ◌<◌, ◌≤◌, ◌==◌, if◌then◌else◌, false, List}
use Rattle.std.proofs.Common.{length, set, Option, Some, None, refl, sym, ap, ◌∙◌, subst, arith}
use Rattle.std.proofs.Common.{get_or-set_same, get_or-set_other, eq-eqb, ne_eqb, inl, inr}
use Rattle.std.proofs.lemmas.Bool.{cases_eq, cases_lt}
use Rattle.std.proofs.lemmas.List.{get_or_past}
use Rattle.crpd_base.specs.Sets.{has, member}
use Rattle.icache.specs.Cache.{Cache, held}
use Rattle.must_cache.specs.Events.{or_before, unless_brought}

-- the sets below i have what the other state knows
pub record ArePutBelow (other init now : Cache) (i : ℕ) : Type 0 where
  pub done : (k : ℕ) → k < i → held now k ≡ or_before (held other k) (held init k)
  pub others : (k : ℕ) → i ≤ k → held now k ≡ held init k

pub none_put : (other init : Cache) → ArePutBelow other init init 0
none_put other init = record {
  done = λ k lt. absurd (omega arith);
  others = λ k le. refl;
}

module _ (other init now : Cache) (i : ℕ) (h : ArePutBelow other init now i) where
  pub put_one : (x : Option ℕ) → i < length now → x ≡ or_before (held other i) (held now i)
      → ArePutBelow other init (set now i x) (i + 1)
  put_one x within is = record {
    done = λ k lt. elim (cases_eq k i) [
      | inl e ↦ subst (λ n. held (set now i x) n ≡ or_before (held other n) (held init n)) (sym e)
          (get_or-set_same now i x None within ∙ is
          ∙ ap (or_before (held other i)) (h.others i (omega arith)))
      | inr ne ↦ get_or-set_other now i k x None ne ∙ h.done k (omega arith)
    ];
    others = λ k le. get_or-set_other now i k x None (λ e. omega arith) ∙ h.others k (omega arith);
  }

  pub all_put : (n : ℕ) → i ≡ n → length other ≡ n
      → (k : ℕ) → held now k ≡ or_before (held other k) (held init k)
  all_put n last count k = elim (cases_lt k n) [
    | inl lt ↦ h.done k (omega arith)
    | inr le ↦
        h.others k (omega arith)
        ∙ sym (ap (λ o. or_before o (held init k)) (get_or_past other k None (omega arith)))
  ]

-- the sets below i of which a block is known are removed
pub record AreUnmarkedBelow (known : Cache) (init now : List ℕ) (i : ℕ) : Type 0 where
  pub done : (k : ℕ) → k < i → has now k ≡ unless_brought (held known k) (has init k)
  pub others : (k : ℕ) → i ≤ k → has now k ≡ has init k

pub none_unmarked : (known : Cache) (init : List ℕ) → AreUnmarkedBelow known init init 0
none_unmarked known init = record {
  done = λ k lt. absurd (omega arith);
  others = λ k le. refl;
}

module _ (known : Cache) (init now : List ℕ) (i : ℕ) (h : AreUnmarkedBelow known init now i) where
  pub unmark_one : (after : List ℕ) (m : ℕ) → held known i ≡ Some m
      → ((t : ℕ) → member after t ≡ (if t == i then 0 else member now t))
      → AreUnmarkedBelow known init after (i + 1)
  unmark_one after m is removed =
      let kept : (k : ℕ) → k ≢ i → has after k ≡ has now k = λ k ne.
      let other : (if k == i then 0 else member now k) ≡ member now k = rw (ne_eqb k i ne) refl in
      ap (λ b. b == 1) (removed k ∙ other) in
      let gone : has after i ≡ false =
      let here : (if i == i then 0 else member now i) ≡ 0 = rw (eq-eqb i i refl) refl in
      ap (λ b. b == 1) (removed i ∙ here) in
      record {
        done = λ k lt. elim (cases_eq k i) [
          | inl e ↦ subst (λ n. has after n ≡ unless_brought (held known n) (has init n)) (sym e)
              (gone ∙ sym (ap (λ o. unless_brought o (has init i)) is))
          | inr ne ↦ kept k ne ∙ h.done k (omega arith)
        ];
        others = λ k le. kept k (λ e. omega arith) ∙ h.others k (omega arith);
      }

  pub unmark_none : held known i ≡ None → AreUnmarkedBelow known init now (i + 1)
  unmark_none none = record {
    done = λ k lt. elim (cases_eq k i) [
      | inl e ↦ subst (λ n. has now n ≡ unless_brought (held known n) (has init n)) (sym e)
          (h.others i (omega arith) ∙ sym (ap (λ o. unless_brought o (has init i)) none))
      | inr ne ↦ h.done k (omega arith)
    ];
    others = λ k le. h.others k (omega arith);
  }

  pub all_unmarked : (n : ℕ) → i ≡ n → length known ≡ n
      → (k : ℕ) → has now k ≡ unless_brought (held known k) (has init k)
  all_unmarked n last count k = elim (cases_lt k n) [
    | inl lt ↦ h.done k (omega arith)
    | inr le ↦
        h.others k (omega arith)
        ∙ sym (ap (λ o. unless_brought o (has init k)) (get_or_past known k None (omega arith)))
  ]
