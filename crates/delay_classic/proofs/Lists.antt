-- Unions of lists of sets, and sublists of them.
use Rattle.std.proofs.Common.{◌≡◌, ℕ, zero, suc, ◌+◌, ◌-◌, ◌*◌, ◌<◌, ◌≤◌, inl, inr, List, [], take}
use Rattle.std.proofs.Common.{drop, length, get_or, refl, sym, ◌∙◌, ap, arith, true, Bool, ◌||◌}
use Rattle.std.proofs.Common.{max}
use Rattle.std.specs.Ordering.{nat_cmp, ord_max}
use Rattle.std.proofs.lemmas.Grind.{common_steps}
use Rattle.std.proofs.lemmas.Bool.{cases_Bool, cases_eq, true≢false}
use Rattle.std.proofs.lemmas.List.{get_or-take, get_or-drop, length-take-le}
use Rattle.std.proofs.lemmas.List.{length-drop}
use Rattle.std.specs.Cmp.{both_ways}
use Rattle.crpd_base.specs.declared.data.Part.{Part}
use Rattle.crpd_base.specs.declared.data.Method.{Method}
use Rattle.crpd_base.specs.declared.data.Method.TheVariants.{Ucb, Ecb}
use Rattle.crpd_base.specs.Sets.{has}
use Rattle.useful_sets.specs.Sets.{IsUnionOfSets}
use Rattle.delay_count.specs.Gamma.{shared_count, shared_sets, evicted_from}
use Rattle.delay_count.specs.Demand.{greatest_from}
use Rattle.delay_classic.specs.Gamma.{useful_to_some, useful_in, classic_ucb_delay}
use Rattle.delay_classic.specs.Gamma.{classic_ecb_delay, ucb_sets, ecb_sets}
use Rattle.delay_count.specs.Counts.{jobs_of}
use Rattle.delay_classic.specs.Inner.Charged.{classic_sets}
use Rattle.delay_classic.specs.Laws.{UcbOfLists, EcbOfLists}
use Rattle.delay_count.proofs.Bits.{shared_most, product}
use Rattle.delay_count.proofs.Greatest.{greatest_le, greatest_moved}
use Rattle.delay_count.proofs.Delays.{shared_same}
use Rattle.delay_classic.proofs.Useful.{some_more, some_moved}

-- the larger of two numbers
pub larger_is : (a b : ℕ) → ord_max nat_cmp a b ≡ max a b
larger_is a b = grind (arith, common_steps)

-- a set in the union is useful to one of the tasks
some_of : (useful : ℕ → ℕ → Bool) (n c : ℕ) → useful_to_some useful 0 n c ≡ true
    → (k : ℕ) × (k < n) × (useful k c ≡ true)
some_of useful zero c h = absurd (true≢false (sym h))
some_of useful (suc n) c h =
    let m = some_more useful 0 n c (omega arith) in
    elim (cases_Bool (useful n c)) [
      | inl b ↦ (n, omega arith, b)
      | inr b ↦
          let rest = some_of useful n c
          (sym (ap (λ z. z || useful_to_some useful 0 n c) b) ∙ sym m ∙ h) in
          (rest.0, omega (arith, rest.1), rest.2)
    ]

to_some : (useful : ℕ → ℕ → Bool) (n c k : ℕ) → k < n → useful k c ≡ true
    → useful_to_some useful 0 n c ≡ true
to_some useful zero c k l h = absurd (omega arith)
to_some useful (suc n) c k l h =
    let m = some_more useful 0 n c (omega arith) in
    elim (cases_Bool (useful n c)) [
      | inl b ↦ m ∙ ap (λ z. z || useful_to_some useful 0 n c) b
      | inr b ↦
          elim (cases_eq k n) [
            | inl e ↦ absurd (true≢false (sym h ∙ ap (λ x. useful x c) e ∙ b))
            | inr ne ↦
                m ∙ ap (λ z. z || useful_to_some useful 0 n c) b
                ∙ to_some useful n c k (omega arith) h
          ]
    ]

pub union_has : (sets : List (List ℕ)) (union : List ℕ) (c : ℕ) → IsUnionOfSets sets union
    → has union c ≡ useful_to_some (useful_in sets) 0 (length sets) c
union_has sets union c u =
    both_ways (has union c) (useful_to_some (useful_in sets) 0 (length sets) c)
    (λ t. let some = (u c).0 t in to_some (useful_in sets) (length sets) c some.0 some.1 some.2)
    (λ t. let some = some_of (useful_in sets) (length sets) c t in (u c).1 some)

pub union_shared : (sets : List (List ℕ)) (union evicted : List ℕ) (n : ℕ)
    → IsUnionOfSets sets union
    → shared_count (has union) (has evicted) n
    ≡ shared_count (useful_to_some (useful_in sets) 0 (length sets)) (has evicted) n
union_shared sets union evicted n u =
    shared_same (has union) (useful_to_some (useful_in sets) 0 (length sets)) (has evicted)
    (has evicted) n (λ c. union_has sets union c u) (λ c. refl)

-- at most all cache sets
pub sets_few : (parts : ℕ → Part) (method : Method) (i j : ℕ) → classic_sets parts method i j ≤ 512
sets_few parts Ucb i j =
    shared_most (useful_to_some (λ k. has (parts k).useful) (suc j) (suc i))
    (has (parts j).evicting) 512
sets_few parts Ecb i j =
    greatest_le (shared_sets parts j) (suc j) (suc i) 512
    (λ k h. shared_most (has (parts k).useful) (evicted_from parts j) 512)

one : (a : ℕ) → a * 1 ≡ a
one a = omega arith

-- the useful sets of the tasks that task j affects in a window of i, as a list
module _ (parts : ℕ → Part) (i j : ℕ) (lower : List (List ℕ)) (order : j ≤ i)
    (size : length lower ≡ i - j)
    (uses : (k : ℕ) → k < i - j → get_or lower k [] ≡ (parts (suc j + k)).useful) where
  end_is : suc j + (i - j) ≡ suc i
  end_is = omega arith

  useful_is : (c : ℕ) → useful_to_some (useful_in lower) 0 (length lower) c
      ≡ useful_to_some (λ k. has (parts k).useful) (suc j) (suc i) c
  useful_is c =
      ap (λ x. useful_to_some (useful_in lower) 0 x c) size
      ∙ some_moved (useful_in lower) (λ k. has (parts k).useful) (suc j) (i - j) c
      (λ k h. ap (λ x. has x c) (uses k h))
      ∙ ap (λ x. useful_to_some (λ k. has (parts k).useful) (suc j) x c) end_is

  pub ucb_is : shared_count (useful_to_some (useful_in lower) 0 (length lower))
      (has (parts j).evicting) 512 ≡ ucb_sets parts i j
  ucb_is =
      shared_same (useful_to_some (useful_in lower) 0 (length lower))
      (useful_to_some (λ k. has (parts k).useful) (suc j) (suc i)) (has (parts j).evicting)
      (has (parts j).evicting) 512 useful_is (λ c. refl)

  pub ecb_is : (up : List ℕ) → ((c : ℕ) → has up c ≡ evicted_from parts j c)
      → greatest_from (λ k. shared_count (useful_in lower k) (has up) 512) 0 (length lower)
      ≡ ecb_sets parts i j
  ecb_is up u =
      ap (λ x. greatest_from (λ k. shared_count (useful_in lower k) (has up) 512) 0 x) size
      ∙ greatest_moved (λ k. shared_count (useful_in lower k) (has up) 512) (shared_sets parts j)
      (suc j) (i - j)
      (λ k h. shared_same (useful_in lower k) (has (parts (suc j + k)).useful) (has up)
      (evicted_from parts j) 512 (λ c. ap (λ x. has x c) (uses k h)) u)
      ∙ ap (λ x. greatest_from (shared_sets parts j) (suc j) x) end_is

-- the delays over such a list are those of the tasks
pub ucb_of_lists : UcbOfLists
ucb_of_lists set parts w i j lower S =
    let size = S.tasks in
    ap (λ z. set.platform.miss * jobs_of set j w * z)
    (ucb_is parts i j lower (omega arith) (omega arith) (λ k h. S.useful k (omega arith)))

pub ecb_of_lists : EcbOfLists
ecb_of_lists set parts w i j lower up S u =
    let size = S.tasks in
    ap (λ z. set.platform.miss * jobs_of set j w * z)
    (ecb_is parts i j lower (omega arith) (omega arith) (λ k h. S.useful k (omega arith)) up u)

-- the sets of a range of tasks, as a sublist of the list of all
module _ (parts : ℕ → Part) (useful : List (List ℕ)) (i j n : ℕ) (order : j ≤ i) (room : i < n)
    (long : n ≤ length useful)
    (uses : (k : ℕ) → k < n → get_or useful k [] ≡ (parts k).useful) where
  abbrev lower : List (List ℕ)
  lower = take (i + 1 - (j + 1)) (drop (j + 1) useful)

  lower_length : length lower ≡ i - j
  lower_length =
      let d = length-drop (j + 1) useful in
      length-take-le (i + 1 - (j + 1)) (drop (j + 1) useful) (omega (arith, d)) ∙ omega arith

  lower_at : (k : ℕ) → k < i - j → get_or lower k [] ≡ (parts (suc j + k)).useful
  lower_at k h =
      let e : j + 1 + k ≡ suc j + k = omega arith in
      get_or-take (i + 1 - (j + 1)) (drop (j + 1) useful) k [] (omega arith)
      ∙ get_or-drop (j + 1) useful k []
      ∙ ap (λ x. get_or useful x []) e
      ∙ uses (suc j + k) (omega arith)

  pub ucb_reloads : (miss result : ℕ) (own : Part) → own ≡ parts j
      → result ≡ classic_ucb_delay miss 1 own.evicting lower 512
      → result ≡ miss * ucb_sets parts i j
  ucb_reloads miss result own at is =
      is
      ∙ ap (λ (p : Part). classic_ucb_delay miss 1 p.evicting lower 512) at
      ∙ product (miss * 1)
      (shared_count (useful_to_some (useful_in lower) 0 (length lower)) (has (parts j).evicting)
      512) miss (ucb_sets parts i j) (one miss) (ucb_is parts i j lower order lower_length lower_at)

  pub ecb_reloads : (miss result : ℕ) (up : List ℕ)
      → ((c : ℕ) → has up c ≡ evicted_from parts j c)
      → result ≡ classic_ecb_delay miss 1 up lower 512 → result ≡ miss * ecb_sets parts i j
  ecb_reloads miss result up u is =
      is ∙ product (miss * 1)
      (greatest_from (λ k. shared_count (useful_in lower k) (has up) 512) 0 (length lower)) miss
      (ecb_sets parts i j) (one miss) (ecb_is parts i j lower order lower_length lower_at up u)
