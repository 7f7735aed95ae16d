-- Double negation: what cannot be refuted. Finitely many facts that cannot be refuted cannot be
-- refuted together.
use Rattle.std.proofs.Common.{◌≡◌, ◌⊎◌, ℕ, zero, suc, ◌<◌, ◌≤◌, List, [], ◌∷◌, ◌++◌, length, Bool}
use Rattle.std.proofs.Common.{true, false, IsTrue, ◌↔◌, get_or, slice_get, Some, refl, sym, ap}
use Rattle.std.proofs.Common.{subst, inl, inr, ⊎_elim, arith, ◌∙◌, Contains}
use Rattle.std.proofs.lemmas.Bool.{cases_eq, false≢true}
use Rattle.std.proofs.lemmas.List.{length_push}
use Rattle.std.proofs.lemmas.Option.{slice_get_within, slice_get-get_or}
use Rattle.crpd_base.proofs.Elements.{at_contains, at_end, at_kept, at_more, contains_at}

-- it cannot be refuted
abbrev pub NotNot : Type 0 → Type 0
NotNot A = (A → ⊥) → ⊥

-- what holds cannot be refuted
pub unrefuted : {A : Type 0} → A → NotNot A
unrefuted a k = k a

-- what follows from what cannot be refuted cannot be refuted
infixr 20 ◌>>=◌
pub ◌>>=◌ : {A B : Type 0} → NotNot A → (A → NotNot B) → NotNot B
(m >>= f) = λ k. m (λ a. f a k)

pub mapped : {A B : Type 0} → (A → B) → NotNot A → NotNot B
mapped f m k = m (λ a. k (f a))

-- each statement holds or fails
pub decided : (A : Type 0) → NotNot (A ⊎ (A → ⊥))
decided A k = k (inr (λ a. k (inl a)))

-- what cannot be refuted below a bound cannot be refuted of all numbers below it
pub all_below : (P : ℕ → Type 0) (n : ℕ) → ((k : ℕ) → k < n → NotNot (P k))
    → NotNot ((k : ℕ) → k < n → P k)
all_below P zero each = unrefuted (λ k lt. absurd (omega arith))
all_below P (suc n) each = λ k.
    all_below P n (λ j lt. each j (omega arith)) (λ below. each n (omega arith) (λ here.
    k (λ j lt. elim (cases_eq j n) [
      | inl same ↦ subst P (sym same) here
      | inr other ↦ below j (omega arith)
    ])))

-- of each number below a bound a statement holds or fails
pub each_decided : (P : ℕ → Type 0) (n : ℕ)
    → NotNot ((k : ℕ) → k < n → P k ⊎ (P k → ⊥))
each_decided P n = all_below (λ k. P k ⊎ (P k → ⊥)) n (λ k lt. decided (P k))

-- the least number below a bound of which a statement holds
pub record IsLeastBelow (P : ℕ → Type 0) (n k : ℕ) : Type 0 where
  pub below : k < n
  pub holds : P k
  pub least : (j : ℕ) → j < k → P j → ⊥

-- of decided statements there is a first that holds below a bound, or none does
pub first_below : (P : ℕ → Type 0) (n : ℕ) → ((k : ℕ) → k < n → P k ⊎ (P k → ⊥))
    → ((k : ℕ) × IsLeastBelow P n k) ⊎ ((k : ℕ) → k < n → P k → ⊥)
first_below P zero dec = inr (λ k lt. absurd (omega arith))
first_below P (suc n) dec =
    elim (first_below P n (λ k lt. dec k (omega arith))) [
      | inl found ↦ inl (
        found.0,
        record {
          below = omega (arith, found.1.below);
          holds = found.1.holds;
          least = found.1.least;
        },
      )
      | inr none ↦ elim (dec n (omega arith)) [
        | inl holds ↦ inl (n, record { below = omega arith; holds = holds; least = none })
        | inr fails ↦ inr (λ k lt. elim (cases_eq k n) [
          | inl same ↦ λ h. fails (subst P same h)
          | inr other ↦ none k (omega arith)
        ])
      ]
    ]

-- so for any statements
pub least_below : (P : ℕ → Type 0) (n : ℕ)
    → NotNot (((k : ℕ) × IsLeastBelow P n k) ⊎ ((k : ℕ) → k < n → P k → ⊥))
least_below P n = mapped (first_below P n) (each_decided P n)

-- the truth of a statement as a test
pub a_test : (A : Type 0) → NotNot ((b : Bool) × (IsTrue b ↔ A))
a_test A =
    mapped
    (⊎_elim
    (λ a. (true, ((λ t. a), (λ a. refl))))
    (λ (fails : A → ⊥).
    (false, ((λ (t : IsTrue false). absurd (false≢true t)), (λ a. absurd (fails a))))))
    (decided A)

-- a value for each number below a bound: the list of them
pub record AreValues {B : Type 0} (P : ℕ → B → Type 0) (n : ℕ) (ys : List B) : Type 0 where
  pub count : length ys ≡ n
  pub each : (k : ℕ) (y : B) → slice_get ys k ≡ Some y → P k y

pub a_list : {B : Type 0} (P : ℕ → B → Type 0) (n : ℕ)
    → ((k : ℕ) → k < n → NotNot ((y : B) × P k y)) → NotNot ((ys : List B) × AreValues P n ys)
a_list P zero each = unrefuted (
  [],
  record {
    count = refl;
    each = λ k y e. absurd (let lt = slice_get_within [] k y e in omega arith);
  },
)
a_list P (suc n) each = λ k.
    a_list P n (λ j lt. each j (omega arith)) (λ front. each n (omega arith) (λ last.
    k (
      front.0 ++ last.0 ∷ [],
      record {
        count = length_push front.0 last.0 ∙ omega (arith, front.1.count);
        each = λ j y e. elim (at_more front.0 last.0 j y e) [
          | inl before ↦ front.1.each j y before
          | inr here ↦ subst (λ i. P i y) (sym (here.0 ∙ front.1.count)) (subst (P n) here.1 last.1)
        ];
      },
    )))

-- and by default past them
pub value_at : {B : Type 0} (P : ℕ → B → Type 0) (n : ℕ) (ys : List B) (d : B)
    → AreValues P n ys → (k : ℕ) → k < n → P k (get_or ys k d)
value_at P n ys d are k lt =
    are.each k (get_or ys k d) (slice_get-get_or ys k d (omega (arith, are.count)))

-- a function of the numbers below a bound
pub a_function : {B : Type 0} (P : ℕ → B → Type 0) (n : ℕ) (d : B)
    → ((k : ℕ) → k < n → NotNot ((y : B) × P k y))
    → NotNot ((f : ℕ → B) × ((k : ℕ) → k < n → P k (f k)))
a_function P n d each =
    mapped (λ ys. ((λ k. get_or ys.0 k d), value_at P n ys.0 d ys.1)) (a_list P n each)

-- of each number below a bound the truth of a statement as a test
pub a_test_below : (P : ℕ → Type 0) (n : ℕ)
    → NotNot ((test : ℕ → Bool) × ((k : ℕ) → k < n → IsTrue (test k) ↔ P k))
a_test_below P n = a_function (λ k b. IsTrue b ↔ P k) n false (λ k lt. a_test (P k))

-- the greatest number up to a bound of which a statement holds
pub record IsGreatestTo (P : ℕ → Type 0) (n k : ℕ) : Type 0 where
  pub within : k ≤ n
  pub holds : P k
  pub greatest : (j : ℕ) → k < j → j ≤ n → P j → ⊥

pub greatest_to : (P : ℕ → Type 0) (n : ℕ) → P 0 → NotNot ((k : ℕ) × IsGreatestTo P n k)
greatest_to P zero first =
    unrefuted (
      0,
      record {
        within = omega arith;
        holds = first;
        greatest = λ j lt le. absurd (omega arith);
      },
    )
greatest_to P (suc n) first = λ k.
    decided (P (suc n)) (⊎_elim
    (λ last. k (
      suc n,
      record {
        within = omega arith;
        holds = last;
        greatest = λ j lt le. absurd (omega arith);
      },
    ))
    (λ not_last. greatest_to P n first (λ g. k (
      g.0,
      record {
        within = omega (arith, g.1.within);
        holds = g.1.holds;
        greatest = λ j lt le h. elim (cases_eq j (suc n)) [
          | inl same ↦ not_last (subst P same h)
          | inr other ↦ g.1.greatest j lt (omega arith) h
        ];
      },
    ))))

-- the numbers below a bound of which a statement holds, in ascending order
pub record IsSublist (P : ℕ → Type 0) (n : ℕ) (xs : List ℕ) : Type 0 where
  pub each : (i x : ℕ) → slice_get xs i ≡ Some x → (x < n) × P x
  pub ascending : (i j x y : ℕ) → i < j → slice_get xs i ≡ Some x → slice_get xs j ≡ Some y → x < y
  pub all : (x : ℕ) → x < n → P x → Contains xs x

-- one number more, of which it holds
with_last : (P : ℕ → Type 0) (n : ℕ) (xs : List ℕ) → IsSublist P n xs → P n
    → IsSublist P (suc n) (xs ++ n ∷ [])
with_last P n xs are here = record {
  each = λ i x e. elim (at_more xs n i x e) [
    | inl old ↦ let r = are.each i x old in (omega (arith, r.0), r.1)
    | inr last ↦ (omega (arith, last.1), subst P last.1 here)
  ];
  ascending = λ i j x y lt e f. elim (at_more xs n j y f) [
    | inl old ↦ elim (at_more xs n i x e) [
      | inl older ↦ are.ascending i j x y lt older old
      | inr last ↦ absurd (let w = slice_get_within xs j y old in omega (arith, w, last.0, lt))
    ]
    | inr last ↦ elim (at_more xs n i x e) [
      | inl older ↦ let w = (are.each i x older).0 in omega (arith, w, last.1)
      | inr other ↦ absurd (omega (arith, last.0, other.0, lt))
    ]
  ];
  all = λ x lt h. elim (cases_eq x n) [
    | inl same ↦ at_contains (xs ++ n ∷ []) (length xs) x (at_end xs n ∙ ap Some (sym same))
    | inr other ↦ let c = contains_at xs x (are.all x (omega arith) h) in
        at_contains (xs ++ n ∷ []) c.0 x (at_kept xs n c.0 x c.1)
  ];
}

without_last : (P : ℕ → Type 0) (n : ℕ) (xs : List ℕ) → IsSublist P n xs → (P n → ⊥)
    → IsSublist P (suc n) xs
without_last P n xs are not_here = record {
  each = λ i x e. let r = are.each i x e in (omega (arith, r.0), r.1);
  ascending = are.ascending;
  all = λ x lt h. elim (cases_eq x n) [
    | inl same ↦ absurd (not_here (subst P same h))
    | inr other ↦ are.all x (omega arith) h
  ];
}

pub sublist : (P : ℕ → Type 0) (n : ℕ) → ((k : ℕ) → k < n → P k ⊎ (P k → ⊥))
    → (xs : List ℕ) × IsSublist P n xs
sublist P zero dec = (
  [],
  record {
    each = λ i x e. absurd (let w = slice_get_within [] i x e in omega arith);
    ascending = λ i j x y lt e. absurd (let w = slice_get_within [] i x e in omega arith);
    all = λ x lt. absurd (omega arith);
  },
)
sublist P (suc n) dec =
    let front = sublist P n (λ k lt. dec k (omega arith)) in
    elim (dec n (omega arith)) [
      | inl here ↦ (front.0 ++ n ∷ [], with_last P n front.0 front.1 here)
      | inr not_here ↦ (front.0, without_last P n front.0 front.1 not_here)
    ]

pub a_sublist : (P : ℕ → Type 0) (n : ℕ) → NotNot ((xs : List ℕ) × IsSublist P n xs)
a_sublist P n = mapped (sublist P n) (each_decided P n)
