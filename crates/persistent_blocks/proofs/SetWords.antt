-- Sets of cache sets as words: sets with the same numbers are the same words, and any numbers below 512
-- are those of a set.
use Rattle.std.proofs.Common.{◌≡◌, ◌≢◌, ◌↔◌, ℕ, zero, suc, ◌*◌, ◌/◌, ◌%◌, ◌^◌, ◌<◌, ◌≤◌, ◌==◌, Bool}
use Rattle.std.proofs.Common.{true, false, if◌then◌else◌, List, get_or, set, replicate, bit_or}
use Rattle.std.proofs.Common.{IsTrue, refl, sym, ap, ◌∙◌, subst, inl, inr, ⊎_elim, arith}
use Rattle.std.proofs.Common.{get_or-set_other, get_or-set_same}
use Rattle.std.specs.Int.{bit_at}
use Rattle.std.proofs.lemmas.Bool.{cases_eq, cases_lt, false≢true, eqb-true, eqb-false, eq-eqb}
use Rattle.std.proofs.lemmas.List.{get_or-replicate, length-replicate, length-set, get_or_past}
use Rattle.std.proofs.lemmas.Nat.{or_lt}
use Rattle.std.proofs.lemmas.Nat.Bits.{bit_at-zero}
use Rattle.crpd_base.specs.Sets.{AreWords, IsSetOf, has, member}
use Rattle.crpd_base.proofs.Bits.{inserted, member_le_one, same_words}
use Rattle.crpd_base.proofs.Classical.{NotNot, decided, mapped, unrefuted, ◌>>=◌}

-- a number of one set is one of the other
member_at : (xs ys : List ℕ) (P Q : ℕ → Type 0) → ((s : ℕ) → P s → Q s) → IsSetOf xs P
    → IsSetOf ys Q → (t : ℕ) → member xs t ≡ 1 → member ys t ≡ 1
member_at xs ys P Q to X Y t e =
    eqb-true (member ys t) 1
    ((Y.numbers t).1 (to t ((X.numbers t).0 (eq-eqb (member xs t) 1 e))))

-- sets with the same numbers are the same words
pub same_numbers : (xs ys : List ℕ) (P Q : ℕ → Type 0) → ((s : ℕ) → P s → Q s)
    → ((s : ℕ) → Q s → P s) → IsSetOf xs P → IsSetOf ys Q → xs ≡ ys
same_numbers xs ys P Q to back X Y =
    same_words xs ys 8 X.size Y.size
    (λ t l.
    let x = member_le_one xs t in
    let y = member_le_one ys t in
    elim (cases_eq (member xs t) 1) [
      | inl e ↦ e ∙ sym (member_at xs ys P Q to X Y t e)
      | inr ne ↦ elim (cases_eq (member ys t) 1) [
        | inl e ↦ absurd (ne (member_at ys xs Q P back Y X t e))
        | inr other ↦ omega (arith, x, y, ne, other)
      ]
    ])

pub same_sets : (xs ys : List ℕ) (P : ℕ → Type 0) → IsSetOf xs P → IsSetOf ys P → xs ≡ ys
same_sets xs ys P X Y = same_numbers xs ys P P (λ s h. h) (λ s h. h) X Y

-- no number
abbrev no_words : List ℕ
no_words = replicate 8 0

-- one number more
abbrev with_number : List ℕ → ℕ → List ℕ
with_number words s =
    set words (s / 64) (bit_or (get_or words (s / 64) 0) (1 * 2 ^ (s % 64) % 2 ^ 64))

record AreWordsBelow (P : ℕ → Type 0) (n : ℕ) (words : List ℕ) : Type 0 where
  size : AreWords 8 words
  numbers : (s : ℕ) → IsTrue (has words s) ↔ ((s < n) × P s)

no_word : (k : ℕ) → get_or no_words k 0 ≡ 0
no_word k = elim (cases_lt k 8) [
  | inl lt ↦ get_or-replicate 8 k 0 0 lt
  | inr ge ↦ get_or_past no_words k 0 (let e = length-replicate {A = ℕ} 8 0 in omega (arith, e, ge))
]

none_in : (s : ℕ) → has no_words s ≡ false
none_in s = ap (λ m. m == 1) (ap (λ w. bit_at w (s % 64)) (no_word (s / 64)) ∙ bit_at-zero (s % 64))

more_size : (words : List ℕ) (n : ℕ) → n < 512 → AreWords 8 words → AreWords 8 (with_number words n)
more_size words n lt W =
    record {
      count = length-set words (n / 64)
          (bit_or (get_or words (n / 64) 0) (1 * 2 ^ (n % 64) % 2 ^ 64)) ∙ W.count;
      each = λ k below. elim (cases_eq k (n / 64)) [
        | inl e ↦
            subst (λ z. z < 2 ^ 64)
            (sym (ap (λ j. get_or (with_number words n) j 0) e
            ∙ get_or-set_same words (n / 64)
            (bit_or (get_or words (n / 64) 0) (1 * 2 ^ (n % 64) % 2 ^ 64)) 0
            (let c = W.count in omega (arith, c, lt))))
            (or_lt 64 (get_or words (n / 64) 0) (1 * 2 ^ (n % 64) % 2 ^ 64)
            (W.each (n / 64) (omega (arith, lt))) (omega arith))
        | inr ne ↦
            subst (λ z. z < 2 ^ 64)
            (sym (get_or-set_other words (n / 64) k
            (bit_or (get_or words (n / 64) 0) (1 * 2 ^ (n % 64) % 2 ^ 64)) 0 ne))
            (W.each k below)
      ];
    }

if_one : (b : Bool) (m : ℕ) → ((if b then 1 else m) == 1) ≡ (if b then true else (m == 1))
if_one true m = refl
if_one false m = refl

more_numbers : (words : List ℕ) (n s : ℕ) → n < 512 → AreWords 8 words
    → has (with_number words n) s ≡ (if s == n then true else has words s)
more_numbers words n s lt W =
    ap (λ m. m == 1) (inserted words n s (let c = W.count in omega (arith, c, lt)))
    ∙ if_one (s == n) (member words s)

module _ (P : ℕ → Type 0) where
  with_last : (n : ℕ) (words : List ℕ) → n < 512 → AreWordsBelow P n words → P n
      → AreWordsBelow P (suc n) (with_number words n)
  with_last n words lt W here = record {
    size = more_size words n lt W.size;
    numbers = λ s. by s (s == n) refl;
  }
    where
      by : (s : ℕ) (b : Bool) → (s == n) ≡ b
          → IsTrue (has (with_number words n) s) ↔ ((s < suc n) × P s)
      by s true e =
          let same : s ≡ n = eqb-true s n e in
          let is : has (with_number words n) s ≡ true =
          more_numbers words n s lt W.size ∙ ap (λ z. if z then true else has words s) e in
          (λ t. (omega (arith, same), subst P (sym same) here), λ q. is)
      by s false e =
          let is : has (with_number words n) s ≡ has words s =
          more_numbers words n s lt W.size ∙ ap (λ z. if z then true else has words s) e in (
            λ t. let r = (W.numbers s).0 (sym is ∙ t) in (omega (arith, r.0), r.1),
            λ q. is ∙ (W.numbers s).1
                ((let ne : s ≢ n = eqb-false s n e in omega (arith, q.0, ne)), q.1),
          )

  without_last : (n : ℕ) (words : List ℕ) → AreWordsBelow P n words → (P n → ⊥)
      → AreWordsBelow P (suc n) words
  without_last n words W not_here = record {
    size = W.size;
    numbers = λ s. (
      λ t. let r = (W.numbers s).0 t in (omega (arith, r.0), r.1),
      λ q. (W.numbers s).1 (elim (cases_eq s n) [
        | inl same ↦ absurd (not_here (subst P same q.1))
        | inr ne ↦ (omega (arith, q.0, ne), q.1)
      ]),
    );
  }

  a_set_below : (n : ℕ) → n ≤ 512 → NotNot ((words : List ℕ) × AreWordsBelow P n words)
  a_set_below zero le = unrefuted (
    no_words,
    record {
      size = record {
        count = length-replicate {A = ℕ} 8 0;
        each = λ k lt. let e = no_word k in subst (λ z. z < 2 ^ 64) (sym e) (omega arith);
      };
      numbers = λ s. (
        λ t. absurd (false≢true (sym (none_in s) ∙ t)),
        λ q. absurd (omega (arith, q.0)),
      );
    },
  )
  a_set_below (suc n) le =
      a_set_below n (omega arith) >>= (λ (w : (words : List ℕ) × AreWordsBelow P n words).
      mapped
      (⊎_elim
      (λ here. (with_number w.0 n, with_last n w.0 (omega arith) w.1 here))
      (λ not_here. (w.0, without_last n w.0 w.1 not_here)))
      (decided (P n)))

  -- a set of cache sets below 512
  pub a_set : ((s : ℕ) → P s → s < 512) → NotNot ((words : List ℕ) × IsSetOf words P)
  a_set low =
      mapped
      (λ (w : (words : List ℕ) × AreWordsBelow P 512 words). (
        w.0,
        record {
          size = w.1.size;
          numbers = λ s. (λ t. ((w.1.numbers s).0 t).1, λ h. (w.1.numbers s).1 (low s h, h));
        },
      ))
      (a_set_below 512 (omega arith))
