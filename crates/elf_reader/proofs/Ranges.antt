-- Disjoint ranges of addresses.
use Rattle.std.proofs.Common.{◌≡◌, ℕ, ◌+◌, ◌<◌, ◌≤◌, ◌⊎◌, min, max, Bool, true, false, cond, not}
use Rattle.std.proofs.Common.{◌&&◌, ◌||◌, ltb, List, [], ◌∷◌, ◌++◌, refl, ap, subst, ◌∙◌, inl, inr}
use Rattle.std.proofs.Common.{⊎_elim, sym, arith, filter, nat_cmp}
use Rattle.std.specs.List.{list_any, AllByRecursion}
use Rattle.std.specs.declared.ops.Bound.TheVariants.{Excluded, Unbounded}
use Rattle.std.specs.BTreeMap.{insert_entry}
use Rattle.std.specs.BTreeMap.Range.{range_contains}
use Rattle.std.specs.Ordering.{match_ordering}
use Rattle.std.specs.declared.cmp.Ordering.TheVariants.{Less, Equal, Greater}
use Rattle.std.proofs.lemmas.List.Elements.{filter_agree}
use Rattle.std.proofs.lemmas.Bool.{eq-eqb, ne_eqb, cases_Bool, cases_lt, or_parts, ltb-true}
use Rattle.std.proofs.lemmas.Bool.{ltb-false, lt-ltb, le-ltb}
use Rattle.std.proofs.lemmas.Bool.Decides.{nat_tests}
use Rattle.std.proofs.Math.Bool.{or_comm, or_assoc}
use Rattle.crpd_base.proofs.Bools.{or_false}
use Rattle.elf_reader.specs.declared.entries.ProgramHeader.{ProgramHeader}
use Rattle.elf_reader.specs.Segments.{AreDisjointRanges, header_end, is_loaded, meets, occupies}

-- a range that starts before the end
abbrev pub starts_before : ℕ → ℕ × ℕ → Bool
starts_before to r = ltb r.0 to

-- if no range starts before the end, none overlaps
pub none_met : (from to : ℕ) (rs : List (ℕ × ℕ)) → filter (starts_before to) rs ≡ []
    → list_any (meets from to) rs ≡ false
none_met from to [] e = refl
none_met from to (r ∷ rs) e = ⊎_elim
    (λ (h : ltb r.0 to ≡ true). absurd
    (let k : (r ∷ filter (starts_before to) rs) ≡ [] = rw h at e in cc))
    (λ (h : ltb r.0 to ≡ false).
    let rest : filter (starts_before to) rs ≡ [] = rw h at e in
    let le : to ≤ r.0 = ltb-false r.0 to h in
    let here : meets from to r ≡ false = le-ltb (max from r.0) (min to r.1) (omega arith) in
    rw here (none_met from to rs rest))
    (cases_Bool (ltb r.0 to))

pub all_kept : {X : Type 0} (P : X → Type 0) (p : X → Bool) (xs : List X) → AllByRecursion P xs
    → AllByRecursion P (filter p xs)
all_kept P p [] h = tt
all_kept P p (x ∷ xs) h =
    elim (p x) as (λ b. AllByRecursion P (cond b (x ∷ filter p xs) (filter p xs))) [
      | true ↦ (h.0, all_kept P p xs h.1)
      | false ↦ all_kept P p xs h.1
    ]

pub last_has : {X : Type 0} (P : X → Type 0) (xs : List X) (x : X)
    → AllByRecursion P (xs ++ x ∷ []) → P x
last_has P [] x h = h.0
last_has P (y ∷ xs) x h = last_has P xs x h.1

pub all_some : (rs : List (ℕ × ℕ)) → AreDisjointRanges rs → AllByRecursion (λ r. r.0 < r.1) rs
all_some [] h = tt
all_some (r ∷ rs) h = (h.0, all_some rs h.2)

meets_first : (from to : ℕ) (r : ℕ × ℕ) → from < to → r.0 < to → r.0 < r.1
    → (meets from to r || false) ≡ ltb from r.1
meets_first from to r some lt a = ⊎_elim
    (λ (h : from < r.1). rw (
      lt-ltb (max from r.0) (min to r.1) (omega arith),
      lt-ltb from r.1 h,
    ) refl)
    (λ (h : r.1 ≤ from). rw (
      le-ltb (max from r.0) (min to r.1) (omega arith),
      le-ltb from r.1 h,
    ) refl)
    (cases_lt from r.1)

absorbed : (from to : ℕ) (r last : ℕ × ℕ) → r.1 ≤ last.1
    → (meets from to r || ltb from last.1) ≡ ltb from last.1
absorbed from to r last le = ⊎_elim
    (λ (h : from < r.1). rw (lt-ltb from last.1 (omega arith))
    (elim (meets from to r) as (λ b. (b || true) ≡ true) [ true ↦ refl | false ↦ refl ]))
    (λ (h : r.1 ≤ from). rw (le-ltb (max from r.0) (min to r.1) (omega arith)) refl)
    (cases_lt from r.1)

-- the step if the first range starts before the end: it is the last such range, or the last one
-- ends later
last_met_here : (from to : ℕ) → from < to → (r : ℕ × ℕ) (rs front : List (ℕ × ℕ)) (last : ℕ × ℕ)
    → AreDisjointRanges (r ∷ rs) → r.0 < to
    → (r ∷ filter (starts_before to) rs) ≡ front ++ last ∷ []
    → ((more : List (ℕ × ℕ)) → filter (starts_before to) rs ≡ more ++ last ∷ []
    → list_any (meets from to) rs ≡ ltb from last.1)
    → list_any (meets from to) (r ∷ rs) ≡ ltb from last.1
last_met_here from to some r rs [] last apart lt e step =
    let same : r ≡ last = cc in
    let none : list_any (meets from to) rs ≡ false = none_met from to rs cc in
    let a : r.0 < r.1 = apart.0 in
    rw (none, ← same) (meets_first from to r some lt a)
last_met_here from to some r rs (f ∷ front) last apart lt e step =
    let rest : filter (starts_before to) rs ≡ front ++ last ∷ [] = cc in
    let after : r.1 ≤ last.0 = last_has (λ s. r.1 ≤ s.0) front last
    (subst (AllByRecursion (λ s. r.1 ≤ s.0)) rest
    (all_kept (λ s. r.1 ≤ s.0) (starts_before to) rs apart.1)) in
    let long : last.0 < last.1 = last_has (λ s. s.0 < s.1) front last
    (subst (AllByRecursion (λ s. s.0 < s.1)) rest
    (all_kept (λ s. s.0 < s.1) (starts_before to) rs (all_some rs apart.2))) in
    rw (step front rest) (absorbed from to r last (omega arith))

-- the last range that starts before the end overlaps if any does
pub last_met : (from to : ℕ) → from < to → (rs front : List (ℕ × ℕ)) (last : ℕ × ℕ)
    → AreDisjointRanges rs → filter (starts_before to) rs ≡ front ++ last ∷ []
    → list_any (meets from to) rs ≡ ltb from last.1
last_met from to some [] [] last apart e = absurd cc
last_met from to some [] (f ∷ front) last apart e = absurd cc
last_met from to some (r ∷ rs) front last apart e = ⊎_elim
    (λ (h : ltb r.0 to ≡ true).
    let kept : (r ∷ filter (starts_before to) rs) ≡ front ++ last ∷ [] = rw h at e in
    let lt : r.0 < to = ltb-true r.0 to h in
    last_met_here from to some r rs front last apart lt kept
    (λ more (k : filter (starts_before to) rs ≡ more ++ last ∷ []).
    last_met from to some rs more last apart.2 k))
    (λ (h : ltb r.0 to ≡ false).
    let rest : filter (starts_before to) rs ≡ front ++ last ∷ [] = rw h at e in
    let le : to ≤ r.0 = ltb-false r.0 to h in
    let here : meets from to r ≡ false = le-ltb (max from r.0) (min to r.1) (omega arith) in
    rw here (last_met from to some rs front last apart.2 rest))
    (cases_Bool (ltb r.0 to))

-- a map's entries below a key
pub range_is : (to : ℕ) (rs : List (ℕ × ℕ))
    → filter (λ r. range_contains nat_cmp Unbounded (Excluded to) r.0) rs
    ≡ filter (starts_before to) rs
range_is to rs =
    filter_agree (λ r. range_contains nat_cmp Unbounded (Excluded to) r.0) (starts_before to)
    (λ r. grind (arith, nat_tests)) rs

-- ---- one more range

-- two ranges that have no address in common
apart_cases : (from to : ℕ) (r : ℕ × ℕ) → from < to → r.0 < r.1 → meets from to r ≡ false
    → (to ≤ r.0) ⊎ (r.1 ≤ from)
apart_cases from to r some long m =
    let le : min to r.1 ≤ max from r.0 = ltb-false (max from r.0) (min to r.1) m in
    ⊎_elim (λ (h : r.0 < to). inr (omega arith)) (λ (h : to ≤ r.0). inl h) (cases_lt r.0 to)

insert_before : (from to : ℕ) (r : ℕ × ℕ) (rs : List (ℕ × ℕ)) → from < r.0
    → insert_entry nat_cmp (r ∷ rs) from to ≡ (from, to) ∷ (r ∷ rs)
insert_before from to r rs h = rw (lt-ltb from r.0 h) refl

insert_after : (from to : ℕ) (r : ℕ × ℕ) (rs : List (ℕ × ℕ)) → r.0 < from
    → insert_entry nat_cmp (r ∷ rs) from to ≡ r ∷ insert_entry nat_cmp rs from to
insert_after from to r rs h =
    rw (
      le-ltb from r.0 (omega arith),
      ne_eqb from r.0 (λ (e : from ≡ r.0). let bad : ⊥ = omega arith in bad),
    ) refl

all_weaker : {X : Type 0} (P Q : X → Type 0) → ((x : X) → P x → Q x) → (xs : List X)
    → AllByRecursion P xs → AllByRecursion Q xs
all_weaker P Q f [] h = tt
all_weaker P Q f (x ∷ xs) h = (f x h.0, all_weaker P Q f xs h.1)

all_later : (a from to : ℕ) (rs : List (ℕ × ℕ)) → AllByRecursion (λ s. a ≤ s.0) rs → a ≤ from
    → AllByRecursion (λ s. a ≤ s.0) (insert_entry nat_cmp rs from to)
all_later a from to [] h le = (le, tt)
all_later a from to (r ∷ rs) h le =
    elim (nat_cmp from r.0) as (λ o.
    AllByRecursion (λ s. a ≤ s.0)
    (match_ordering o ((from, to) ∷ r ∷ rs) ((r.0, to) ∷ rs)
    (r ∷ insert_entry nat_cmp rs from to))) [
      | Less ↦ (le, (h.0, h.1))
      | Equal ↦ (h.0, h.1)
      | Greater ↦ (h.0, all_later a from to rs h.1 le)
    ]

pub insert_apart : (from to : ℕ) → from < to → (rs : List (ℕ × ℕ)) → AreDisjointRanges rs
    → list_any (meets from to) rs ≡ false → AreDisjointRanges (insert_entry nat_cmp rs from to)
insert_apart from to some [] apart m = (some, tt, tt)
insert_apart from to some (r ∷ rs) apart m =
    let parts = or_parts (meets from to r) (list_any (meets from to) rs) m in
    ⊎_elim
    (λ (h : to ≤ r.0). let long : r.0 < r.1 = apart.0 in
    rw (insert_before from to r rs (omega arith)) (
      some,
      (h, all_weaker (λ s. r.1 ≤ s.0) (λ s. to ≤ s.0) (λ s k. omega arith) rs apart.1),
      apart,
    ))
    (λ (h : r.1 ≤ from). let long : r.0 < r.1 = apart.0 in
    rw (insert_after from to r rs (omega arith)) (
      apart.0,
      all_later r.1 from to rs apart.1 h,
      insert_apart from to some rs apart.2 parts.1,
    ))
    (apart_cases from to r some apart.0 parts.0)

pub insert_any : (a b from to : ℕ) → from < to → (rs : List (ℕ × ℕ)) → AreDisjointRanges rs
    → list_any (meets from to) rs ≡ false
    → list_any (meets a b) (insert_entry nat_cmp rs from to)
    ≡ (list_any (meets a b) rs || meets a b (from, to))
insert_any a b from to some [] apart m = or_false (meets a b (from, to))
insert_any a b from to some (r ∷ rs) apart m =
    let parts = or_parts (meets from to r) (list_any (meets from to) rs) m in
    ⊎_elim
    (λ (h : to ≤ r.0). ap (list_any (meets a b)) (insert_before from to r rs (omega arith))
    ∙ or_comm (meets a b (from, to)) (meets a b r || list_any (meets a b) rs))
    (λ (h : r.1 ≤ from). let long : r.0 < r.1 = apart.0 in
    ap (list_any (meets a b)) (insert_after from to r rs (omega arith))
    ∙ (ap (λ t. meets a b r || t) (insert_any a b from to some rs apart.2 parts.1)
    ∙ sym (or_assoc (meets a b r) (list_any (meets a b) rs) (meets a b (from, to)))))
    (apart_cases from to r some apart.0 parts.0)

-- an empty range overlaps nothing
pub empty_meets : (at : ℕ) (rs : List (ℕ × ℕ)) → list_any (meets at at) rs ≡ false
empty_meets at [] = refl
empty_meets at (r ∷ rs) = rw (le-ltb (max at r.0) (min at r.1) (omega arith)) (empty_meets at rs)

pub free_empty : (b : Bool) (at size : ℕ) (rs : List (ℕ × ℕ)) → at ≡ at + size
    → true ≡ not (b && list_any (meets at (at + size)) rs)
free_empty b at size rs e =
    subst (λ n. true ≡ not (b && list_any (meets at n) rs)) e
    (rw (empty_meets at rs) (elim b as (λ t. true ≡ not (t && false)) [
      | true ↦ refl
      | false ↦ refl
    ]))

pub occupied : (from to start end : ℕ) (h : ProgramHeader) (x : Bool) → h.p_type ≡ 1
    → start ≡ h.p_vaddr → end ≡ header_end h
    → (x || meets from to (start, end)) ≡ (x || occupies from to h)
occupied from to start end h x loaded s e = rw (s, e, eq-eqb h.p_type 1 loaded) refl

pub not_loaded : (h : ProgramHeader) (x : Bool) → (h.p_type ≡ 1 → ⊥) → true ≡ not (is_loaded h && x)
not_loaded h x other = rw (ne_eqb h.p_type 1 other) refl
