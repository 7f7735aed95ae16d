-- The releases and places of a script's jobs in ascending order.
use Rattle.std.proofs.Common.{◌≡◌, ℕ, zero, suc, ◌+◌, ◌<◌, ◌≤◌, ◌⊎◌, true, false, List, length}
use Rattle.std.proofs.Common.{refl, sym, ◌∙◌, ap, subst, inl, inr, arith, ◌==◌}
use Rattle.std.proofs.Common.{if◌then◌else◌, swap, is_lt, nat_cmp}
use Rattle.std.specs.List.Sorted.{IsPermutation, IsSortedBy}
use Rattle.std.specs.Ordering.{ordering_then}
use Rattle.std.proofs.lemmas.Bool.{cases_Bool, cases_eq, cases_lt, eq-eqb, ne_eqb}
use Rattle.std.proofs.lemmas.Bool.Decides.{nat_tests}
use Rattle.std.proofs.lemmas.List.Edits.{length-swap, swapped_from_swap}
use Rattle.std.proofs.lemmas.List.Sorted.{IsPermutation-keeps}
use Rattle.crpd_base.specs.declared.data.ScriptJob.{ScriptJob}
use Rattle.preempt_machine.specs.Schedule.{script_line}
use Rattle.preempt_machine.specs.declared.queue.Due.{Due}
use Rattle.preempt_machine.specs.Inner.Queue.{due_at, due_release, due_place, IsDueBefore}
use Rattle.preempt_machine.specs.Inner.Queue.{IsReleaseOrder, AreListed}

-- the value past the end of an order
abbrev none_due : Due
none_due = record { release = 0; place = 0 }

-- the entries are those of the lines, each at one position
record AreEntries (lines : List ScriptJob) (l : List Due) : Type 0 where
  places : (p : ℕ) → p < length l → due_place l p < length lines
  releases : (p : ℕ) → p < length l → due_release l p ≡ (script_line lines (due_place l p)).release
  one : (p r : ℕ) → p < length l → r < length l → due_place l p ≡ due_place l r → p ≡ r
  every : (x : ℕ) → x < length lines → (p : ℕ) × (p < length l) × (due_place l p ≡ x)

listed_entries : (lines : List ScriptJob) (l : List Due) → AreListed lines l
    → AreEntries lines l
listed_entries lines l h =
    record {
      places = λ p b.
          let e = ap (λ (x : Due). x.place) (h.each p (omega (arith, h.long))) in
          omega (arith, e, h.long);
      releases = λ p b.
          let is = h.each p (omega (arith, h.long)) in
          ap (λ (x : Due). x.release) is
          ∙ ap (λ k. (script_line lines k).release) (sym (ap (λ (x : Due). x.place) is));
      one = λ p r a b e.
          sym (ap (λ (x : Due). x.place) (h.each p (omega (arith, h.long)))) ∙ e
          ∙ ap (λ (x : Due). x.place) (h.each r (omega (arith, h.long)));
      every = λ x b. (x, omega (arith, h.long), ap (λ (y : Due). y.place) (h.each x b));
    }

-- the position of an element before two were exchanged
abbrev other : ℕ → ℕ → ℕ → ℕ
other i j p = if p == i then j else (if p == j then i else p)

other_back : (i j p : ℕ) → other i j (other i j p) ≡ p
other_back i j p =
    elim (cases_eq p i) [
      | inl e ↦
          let t : (p == i) ≡ true = eq-eqb p i e in
          elim (cases_eq j i) [
            | inl same ↦ let u : (j == i) ≡ true = eq-eqb j i same in rw (t, u) (same ∙ sym e)
            | inr ne ↦
                let u : (j == i) ≡ false = ne_eqb j i ne in
                let v : (j == j) ≡ true = eq-eqb j j refl in
                rw (t, u, v) (sym e)
          ]
      | inr ne ↦
          let t : (p == i) ≡ false = ne_eqb p i ne in
          elim (cases_eq p j) [
            | inl same ↦
                let u : (p == j) ≡ true = eq-eqb p j same in
                let v : (i == i) ≡ true = eq-eqb i i refl in
                rw (t, u, v) (sym same)
            | inr differ ↦ let u : (p == j) ≡ false = ne_eqb p j differ in rw (t, u, t, u) refl
          ]
    ]

other_below : (i j p n : ℕ) → i < n → j < n → p < n → other i j p < n
other_below i j p n a b c =
    elim (cases_Bool (p == i)) [
      | inl t ↦ rw t b
      | inr f ↦ elim (cases_Bool (p == j)) [ inl t ↦ rw (f, t) a | inr g ↦ rw (f, g) c ]
    ]

swap_at : (l : List Due) (i j p : ℕ) → i < length l → j < length l
    → due_at (swap l i j) p ≡ due_at l (other i j p)
swap_at l i j p a b =
    let s = swapped_from_swap l (swap l i j) i j none_due a b refl in
    elim (cases_eq p i) [
      | inl e ↦ let t : (p == i) ≡ true =
          eq-eqb p i e in rw t (ap (λ k. due_at (swap l i j) k) e ∙ s.0)
      | inr ne ↦
          let t : (p == i) ≡ false = ne_eqb p i ne in
          elim (cases_eq p j) [
            | inl e ↦ let u : (p == j) ≡ true =
                eq-eqb p j e in rw (t, u) (ap (λ k. due_at (swap l i j) k) e ∙ s.1)
            | inr differ ↦ let u : (p == j) ≡ false =
                ne_eqb p j differ in rw (t, u) (s.2 p ne differ)
          ]
    ]

swapped_entries : (lines : List ScriptJob) (l : List Due) (i j : ℕ) → i < length l
    → j < length l → AreEntries lines l → AreEntries lines (swap l i j)
swapped_entries lines l i j a b h =
    let long = length-swap l i j in
    let place : (p : ℕ) → due_place (swap l i j) p ≡ due_place l (other i j p) = λ p.
    ap (λ (x : Due). x.place) (swap_at l i j p a b) in
    let release : (p : ℕ) → due_release (swap l i j) p ≡ due_release l (other i j p) = λ p.
    ap (λ (x : Due). x.release) (swap_at l i j p a b) in
    let below : (p : ℕ) → p < length (swap l i j) → other i j p < length l = λ p c.
    other_below i j p (length l) a b (omega (arith, long)) in
    record {
      places = λ p c. rw (place p) (h.places (other i j p) (below p c));
      releases = λ p c. rw (place p, release p) (h.releases (other i j p) (below p c));
      one = λ p r c d e.
          let same = h.one (other i j p) (other i j r) (below p c) (below r d)
          (sym (place p) ∙ e ∙ place r) in
          sym (other_back i j p) ∙ ap (other i j) same ∙ other_back i j r;
      every = λ x c.
          let (p, d, e) = h.every x c in (
            other i j p,
            subst (λ n. other i j p < n) (sym long) (other_below i j p (length l) a b d),
            place (other i j p) ∙ ap (due_place l) (other_back i j p) ∙ e,
          );
    }

-- one entry comes before another, or is equal to it
abbrev IsAtMost : Due → Due → Type 0
IsAtMost a b = (a.release < b.release) ⊎ ((a.release ≡ b.release) × (a.place ≤ b.place))

at_most : (a b : Due)
    → is_lt (ordering_then (nat_cmp b.release a.release) (nat_cmp b.place a.place)) ≡ false
    → IsAtMost a b
at_most a b h =
    elim (cases_lt a.release b.release) [
      | inl l ↦ inl l
      | inr g ↦ elim (cases_lt b.release a.release) [
        | inl l ↦ absurd (grind (arith, nat_tests))
        | inr k ↦ elim (cases_lt b.place a.place) [
          | inl l ↦ absurd (grind (arith, nat_tests))
          | inr m ↦ let e : a.release ≡ b.release = omega arith in inr (e, m)
        ]
      ]
    ]

at_most_trans : (a b c : Due) → IsAtMost a b → IsAtMost b c → IsAtMost a c
at_most_trans a b c (inl x) (inl y) = inl (omega arith)
at_most_trans a b c (inl x) (inr (e, y)) = inl (omega arith)
at_most_trans a b c (inr (e, x)) (inl y) = inl (omega arith)
at_most_trans a b c (inr (e, x)) (inr (f, y)) = inr (e ∙ f, omega arith)

far : (l : List Due)
    → ((k : ℕ) → k + 1 < length l → IsAtMost (due_at l k) (due_at l (k + 1)))
    → (p r : ℕ) → p ≤ r → r < length l → IsAtMost (due_at l p) (due_at l r)
far l next p zero a b =
    let e : p ≡ 0 = omega arith in
    inr (
      ap (λ k. (due_at l k).release) e,
      let f = ap (λ k. (due_at l k).place) e in omega (arith, f),
    )
far l next p (suc r) a b =
    elim (cases_lt r p) [
      | inl l1 ↦ let e : p ≡ suc r =
          omega arith in
          inr (
            ap (λ k. (due_at l k).release) e,
            let f = ap (λ k. (due_at l k).place) e in omega (arith, f),
          )
      | inr g ↦
          let k : r + 1 ≡ suc r = omega arith in
          at_most_trans (due_at l p) (due_at l r) (due_at l (suc r))
          (far l next p r g (omega arith))
          (subst (λ n. IsAtMost (due_at l r) (due_at l n)) k (next r (omega arith)))
    ]

strictly : (lines : List ScriptJob) (l : List Due) (p r : ℕ) → AreEntries lines l → p < r
    → r < length l → IsAtMost (due_at l p) (due_at l r)
    → IsDueBefore (due_at l p) (due_at l r)
strictly lines l p r h a b (inl x) = inl x
strictly lines l p r h a b (inr (e, x)) =
    elim (cases_lt (due_place l p) (due_place l r)) [
      | inl y ↦ inr (e, y)
      | inr g ↦ let same = h.one p r (omega arith) b (omega arith) in absurd (omega arith)
    ]

-- a sorted list of the entries is the order by release
pub sorted_due : (lines : List ScriptJob) (l m : List Due) → AreListed lines l
    → IsPermutation l m → IsSortedBy
    (λ (x y : Due). is_lt (ordering_then (nat_cmp x.release y.release) (nat_cmp x.place y.place))) m
    → IsReleaseOrder lines m
sorted_due lines l m h moved up =
    let entries = IsPermutation-keeps l (AreEntries lines) (listed_entries lines l h)
    (λ k i j a b e. swapped_entries lines k i j a b e) m moved in
    record {
      places = entries.places;
      releases = entries.releases;
      every = entries.every;
      ordered = λ p r a b.
          strictly lines m p r entries a b
          (far m (λ k c. at_most (due_at m k) (due_at m (k + 1))
          (up k none_due (omega arith) c)) p r (omega arith) b);
    }
