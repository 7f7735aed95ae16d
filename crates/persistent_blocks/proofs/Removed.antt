-- The numbers of a set are removed from another, one by one.
use Rattle.std.proofs.Common.{◌≡◌, ◌≢◌, ℕ, ◌+◌, ◌<◌, ◌≤◌, ◌==◌, Bool, true, false, if◌then◌else◌}
use Rattle.std.proofs.Common.{List, IsTrue, ◌↔◌, refl, sym, ap, ◌∙◌, subst, arith, eq-eqb, ne_eqb}
use Rattle.std.proofs.Common.{inl, inr}
use Rattle.std.proofs.lemmas.Bool.{cases_eq, cases_lt, cases_Bool, false≢true}
use Rattle.crpd_base.proofs.Bits.{zero_or_one, member_le_one}
use Rattle.crpd_base.specs.Sets.{has, member}

-- a set of which no number below n is missing in an empty one, and which has none past n
pub has_none : (words empty : List ℕ) (n : ℕ) → ((t : ℕ) → member empty t ≡ 0)
    → ((t : ℕ) → t < n → member words t ≡ 1 → member empty t ≡ 1)
    → ((t : ℕ) → n ≤ t → member words t ≡ 0) → (t : ℕ) → has words t ≡ false
has_none words empty n none within past t = elim (cases_lt t n) [
  | inl lt ↦ elim (zero_or_one (member words t) (member_le_one words t)) [
    | inl off ↦ ap (λ m. m == 1) off
    | inr on ↦ let there = within t lt on in let gone = none t in absurd (omega arith)
  ]
  | inr ge ↦ ap (λ m. m == 1) (past t ge)
]

-- the numbers below i are removed
pub record AreRemovedBelow (others init now : List ℕ) (i : ℕ) : Type 0 where
  pub done : (k : ℕ) → k < i → has now k ≡ (if has others k then false else has init k)
  pub left : (k : ℕ) → i ≤ k → has now k ≡ has init k

pub none_removed : (others init : List ℕ) → AreRemovedBelow others init init 0
none_removed others init = record {
  done = λ k lt. absurd (omega arith);
  left = λ k le. refl;
}

module _ (others init now : List ℕ) (i : ℕ) (h : AreRemovedBelow others init now i) where
  pub remove_one : (after : List ℕ) → has others i ≡ true
      → ((t : ℕ) → member after t ≡ (if t == i then 0 else member now t))
      → AreRemovedBelow others init after (i + 1)
  remove_one after there removed =
      let kept : (k : ℕ) → k ≢ i → has after k ≡ has now k = λ k ne.
      let other : (if k == i then 0 else member now k) ≡ member now k = rw (ne_eqb k i ne) refl in
      ap (λ b. b == 1) (removed k ∙ other) in
      let gone : has after i ≡ false =
      let here : (if i == i then 0 else member now i) ≡ 0 = rw (eq-eqb i i refl) refl in
      ap (λ b. b == 1) (removed i ∙ here) in
      record {
        done = λ k lt. elim (cases_eq k i) [
          | inl e ↦ subst (λ n. has after n ≡ (if has others n then false else has init n)) (sym e)
              (gone ∙ sym (either (has others i) there))
          | inr ne ↦ kept k ne ∙ h.done k (omega arith)
        ];
        left = λ k le. kept k (λ e. omega arith) ∙ h.left k (omega arith);
      }
    where
      either : (b : Bool) → b ≡ true → (if b then false else has init i) ≡ false
      either true t = refl
      either false t = absurd (false≢true t)

  pub keep_one : has others i ≡ false → AreRemovedBelow others init now (i + 1)
  keep_one off = record {
    done = λ k lt. elim (cases_eq k i) [
      | inl e ↦ subst (λ n. has now n ≡ (if has others n then false else has init n)) (sym e)
          (h.left i (omega arith) ∙ sym (either (has others i) off))
      | inr ne ↦ h.done k (omega arith)
    ];
    left = λ k le. h.left k (omega arith);
  }
    where
      either : (b : Bool) → b ≡ false → (if b then false else has init i) ≡ has init i
      either true t = absurd (false≢true (sym t))
      either false t = refl

  pub all_removed : (n : ℕ) → n ≤ i → ((t : ℕ) → n ≤ t → member others t ≡ 0)
      → (k : ℕ) → has now k ≡ (if has others k then false else has init k)
  all_removed n last past k = elim (cases_lt k i) [
    | inl lt ↦ h.done k lt
    | inr le ↦
        h.left k le
        ∙ sym (ap (λ (b : Bool). if b then false else has init k)
        (ap (λ m. m == 1) (past k (omega arith))))
  ]

-- nothing is removed of an empty set's
pub none_of_none : (others init : List ℕ) → ((t : ℕ) → has others t ≡ false)
    → (k : ℕ) → has init k ≡ (if has others k then false else has init k)
none_of_none others init none k =
    sym (ap (λ (b : Bool). if b then false else has init k) (none k))

-- whether a number is in a set, as a test
pub says : (b : Bool) (words : List ℕ) (s : ℕ) → (IsTrue b ↔ (member words s ≡ 1))
    → b ≡ has words s
says b words s h = elim (zero_or_one (member words s) (member_le_one words s)) [
  | inl off ↦ elim (cases_Bool b) [
    | inl t ↦ let on = h.0 t in absurd (omega arith)
    | inr f ↦ f ∙ sym (ap (λ m. m == 1) off)
  ]
  | inr on ↦ h.1 on ∙ sym (ap (λ m. m == 1) on)
]
