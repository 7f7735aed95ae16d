-- The ranges of what was read.
use Rattle.std.proofs.Common.{◌≡◌, ◌⊎◌, ℕ, ◌≤◌, Bool, true, nat_le, List, length, Option, Some}
use Rattle.std.proofs.Common.{None, Result, Ok, refl, ap, subst, inl, inr, arith, pos}
use Rattle.std.proofs.lemmas.Bool.{cases_Bool, leb-true}
use Rattle.std.proofs.lemmas.Bool.Decides.{nat_tests}
use Rattle.std.proofs.lemmas.Option.{same_Some}
use Rattle.crpd_base.proofs.Results.{bind_ok, ok_is}
use Rattle.crpd_base.specs.Names.{is_between, is_line_length}
use Rattle.toml.specs.Data.{Data, integer, Members, get_member}
use Rattle.text_keys.specs.declared.error.KeyError.{KeyError}
use Rattle.text_keys.specs.Named.{only}
use Rattle.text_keys.specs.TomlKeys.{required, optional, whole, value_at_key, value_or_bad, at_most}

-- n is from low to high
pub record IsBetween (low high n : ℕ) : Type 0 where
  pub reaches : low ≤ n
  pub within : n ≤ high

pub between_ok : (low high n : ℕ) → is_between low high n ≡ true → IsBetween low high n
between_ok low high n e =
    elim (cases_Bool (nat_le low n)) [
      | inl a ↦ elim (cases_Bool (nat_le n high)) [
        | inl b ↦ record { reaches = leb-true _ _ a; within = leb-true _ _ b }
        | inr b ↦ absurd (let f = rw (a, b) at e in cc)
      ]
      | inr a ↦ absurd (let f = rw a at e in cc)
    ]

-- a value that passed a test
pub only_ok : {A : Type 0} (test : A → Bool) (o : Option A) (x : A) → only test o ≡ Some x
    → (test x ≡ true) × (o ≡ Some x)
only_ok test None x e = absurd cc
only_ok test (Some y) x e =
    elim (cases_Bool (test y)) [
      | inl passes ↦ let f = rw passes at e in
          let same : y ≡ x = same_Some y x f in
          subst (λ z. (test z ≡ true) × (◌≡◌ {A = Option _} (Some y) (Some z))) same (passes, refl)
      | inr fails ↦ absurd (let f = rw fails at e in cc)
    ]

-- the length of a line
pub line_between : (n : ℕ) → is_line_length n ≡ true → IsBetween 4 64 n
line_between n e = record { reaches = grind (arith, nat_tests); within = grind (arith, nat_tests) }

-- ---- keys of a TOML table

pub whole_between : (low high : ℕ) (d : Data) (n : ℕ) → whole low high d ≡ Some n
    → IsBetween low high n
whole_between low high (integer (pos m)) n e =
    let passed = only_ok (is_between low high) (Some m) n e in between_ok low high n passed.0
whole_between low high d n e = absurd cc

good_ok : {A : Type 0} (path key : List ℕ) (o : Option A) (x : A) → value_or_bad path key o ≡ Ok x
    → o ≡ Some x
good_ok path key None x e = absurd cc
good_ok path key (Some y) x e = ap (λ v. Some v) (ok_is y x e)

-- the value of a key that was read
pub required_ok : {A : Type 0} (read : Data → Option A) (path key : List ℕ) (ms : Members) (x : A)
    → required read path key ms ≡ Ok x → (d : Data) × (read d ≡ Some x)
unfolding required
required_ok read path key ms x e =
    let d = bind_ok (value_at_key path key ms) _ x e in
    (d.0, good_ok path key (read d.0) x d.2)

optional_by : {A : Type 0} (default : A) (read : Data → Option A) (path key : List ℕ)
    (o : Option Data) (x : A)
    → ◌≡◌ {A = Result A KeyError}
    (elim o [ None ↦ Ok default | Some d ↦ value_or_bad path key (read d) ]) (Ok x)
    → (default ≡ x) ⊎ ((d : Data) × (read d ≡ Some x))
optional_by default read path key None x e = inl (ok_is default x e)
optional_by default read path key (Some d) x e = inr (d, good_ok path key (read d) x e)

pub optional_ok : {A : Type 0} (default : A) (read : Data → Option A) (path key : List ℕ)
    (ms : Members) (x : A) → optional default read path key ms ≡ Ok x
    → (default ≡ x) ⊎ ((d : Data) × (read d ≡ Some x))
unfolding optional
optional_ok default read path key ms x e = optional_by default read path key (get_member key ms) x e

pub required_between : (low high : ℕ) (path key : List ℕ) (ms : Members) (n : ℕ)
    → required (whole low high) path key ms ≡ Ok n → IsBetween low high n
required_between low high path key ms n e =
    let d = required_ok (whole low high) path key ms n e in
    whole_between low high d.0 n d.1

pub optional_within : (high : ℕ) (path key : List ℕ) (ms : Members) (n : ℕ)
    → optional 0 (whole 0 high) path key ms ≡ Ok n → n ≤ high
optional_within high path key ms n e =
    elim (optional_ok 0 (whole 0 high) path key ms n e) [
      | inl zero ↦ omega (arith, zero)
      | inr d ↦ (whole_between 0 high d.0 n d.1).within
    ]

pub at_most_ok : {A : Type 0} (n : ℕ) (o : Option (List A)) (xs : List A) → at_most n o ≡ Some xs
    → length xs ≤ n
at_most_ok n None xs e = absurd cc
at_most_ok n (Some ys) xs e =
    elim (cases_Bool (nat_le (length ys) n)) [
      | inl fits ↦ let f = rw fits at e in
          let same : ys ≡ xs = same_Some ys xs f in
          subst (λ l. length l ≤ n) same (leb-true _ _ fits)
      | inr long ↦ absurd (let f = rw long at e in cc)
    ]
