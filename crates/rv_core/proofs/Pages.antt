-- Pages store the memory: its bytes, and what a write to a page changes.
use Rattle.std.proofs.Common.{◌≡◌, ℕ, zero, suc, ◌+◌, ◌*◌, ◌/◌, ◌%◌, ◌^◌, ◌<◌, ◌≤◌, ◌==◌, true}
use Rattle.std.proofs.Common.{false, if◌then◌else◌, cond, List, [], ◌∷◌, length, replicate, arith}
use Rattle.std.proofs.Common.{refl, sym, ap, ◌∙◌, inl, inr, ◌⊎◌, subst, unwrap_or, Some, None}
use Rattle.std.proofs.Common.{length-set, get_or-set_same, get_or-set_other, slice_index, slice_set}
use Rattle.std.proofs.Common.{nat_cmp}
use Rattle.std.proofs.lemmas.List.{get_or_past, get_or-replicate, length-replicate}
use Rattle.std.proofs.lemmas.Bool.{cases_Bool, cases_lt, cases_eq, lt-ltb, le-ltb, eq-eqb, ne_eqb}
use Rattle.std.specs.BTreeMap.{insert_entry, is_at}
use Rattle.std.specs.Map.{lookup, set_value}
use Rattle.rv_core.specs.Memory.{Memory, IsFrom, IsMemory, byte, put_byte, next_byte, memory_word}
use Rattle.rv_core.specs.Inner.Memory.{put_bytes}
use Rattle.rv_core.specs.Inner.Pages.{Pages, bytes_before, memory_of, IsPage, ArePages, page_at}
use Rattle.rv_core.specs.Inner.Pages.{byte_in, page_word, page_with_value}
use Rattle.rv_core.proofs.Memories.{byte_below, byte_entry, byte_put, from_entry, from_lower}
use Rattle.rv_core.proofs.Memories.{order_cases, put_bytes_from, put_from, same_bytes}

-- bytes before a memory of higher addresses
pub before_from : (a : ℕ) (bytes : List ℕ) (memory : Memory) → IsFrom (a + length bytes) memory
    → a + length bytes ≤ 2 ^ 32 → ((i : ℕ) → slice_index bytes i < 2 ^ 8)
    → IsFrom a (bytes_before a bytes memory)
before_from a [] memory h below small = subst (λ n. IsFrom n memory) (omega arith) h
before_from a (b ∷ bytes) memory h below small =
    let rest : IsFrom (a + 1) (bytes_before (a + 1) bytes memory) =
    before_from (a + 1) bytes memory (subst (λ n. IsFrom n memory) (omega arith) h) (omega arith)
    (λ i. small (suc i)) in
    from_entry a a b _ rest (omega arith) (omega arith) (small zero)

before_next : (a b : ℕ) (bytes : List ℕ) (memory : Memory) (c : ℕ)
    → IsFrom (a + length (b ∷ bytes)) memory → a + length (b ∷ bytes) ≤ 2 ^ 32
    → ((i : ℕ) → slice_index (b ∷ bytes) i < 2 ^ 8)
    → byte (bytes_before a (b ∷ bytes) memory) c
    ≡ (if a == c then b else byte (bytes_before (a + 1) bytes memory) c)
before_next a b bytes memory c h below small =
    let rest : IsFrom (a + 1) (bytes_before (a + 1) bytes memory) =
    before_from (a + 1) bytes memory (subst (λ n. IsFrom n memory) (omega arith) h) (omega arith)
    (λ i. small (suc i)) in
    byte_entry a b c _ (byte_below (a + 1) _ a rest (omega arith))

pub before_in : (a : ℕ) (bytes : List ℕ) (memory : Memory) (i : ℕ)
    → IsFrom (a + length bytes) memory → a + length bytes ≤ 2 ^ 32
    → ((i : ℕ) → slice_index bytes i < 2 ^ 8) → i < length bytes
    → byte (bytes_before a bytes memory) (a + i) ≡ slice_index bytes i
before_in a [] memory i h below small inside = absurd (omega arith)
before_in a (b ∷ bytes) memory zero h below small inside =
    let same : (a == (a + 0)) ≡ true = eq-eqb a (a + 0) (omega arith) in
    before_next a b bytes memory (a + 0) h below small ∙ rw same refl
before_in a (b ∷ bytes) memory (suc i) h below small inside =
    let apart : (a == (a + suc i)) ≡ false =
    ne_eqb a (a + suc i) (λ e. absurd (omega (arith, e))) in
    let at : a + suc i ≡ a + 1 + i = omega arith in
    before_next a b bytes memory (a + suc i) h below small
    ∙ rw apart (ap (byte (bytes_before (a + 1) bytes memory)) at
    ∙ before_in (a + 1) bytes memory i (subst (λ n. IsFrom n memory) (omega arith) h) (omega arith)
    (λ j. small (suc j)) (omega arith))

pub before_out : (a : ℕ) (bytes : List ℕ) (memory : Memory) (c : ℕ)
    → IsFrom (a + length bytes) memory → a + length bytes ≤ 2 ^ 32
    → ((i : ℕ) → slice_index bytes i < 2 ^ 8) → (c < a) ⊎ (a + length bytes ≤ c)
    → byte (bytes_before a bytes memory) c ≡ byte memory c
before_out a [] memory c h below small out = refl
before_out a (b ∷ bytes) memory c h below small out =
    let apart : (a == c) ≡ false = ne_eqb a c
    (λ e. elim out [
      | inl l ↦ absurd (omega (arith, e, l))
      | inr g ↦ absurd (omega (arith, e, g))
    ]) in
    let rest : (c < a + 1) ⊎ (a + 1 + length bytes ≤ c) = elim out [
      | inl l ↦ inl (omega (arith, l))
      | inr g ↦ inr (omega (arith, g))
    ] in
    before_next a b bytes memory c h below small
    ∙ rw apart (before_out (a + 1) bytes memory c (subst (λ n. IsFrom n memory) (omega arith) h)
    (omega arith) (λ j. small (suc j)) rest)

-- pages are a memory
pub pages_from : (low : ℕ) (pages : Pages) → ArePages low pages
    → IsFrom (64 * low) (memory_of pages)
pages_from low [] h = tt
pages_from low (p ∷ pages) h =
    let rest : IsFrom (64 * p.0 + length p.1) (memory_of pages) =
    subst (λ n. IsFrom n (memory_of pages)) (omega (arith, h.0.page.long))
    (pages_from (p.0 + 1) pages h.1) in
    from_lower (64 * low) (64 * p.0) _ (omega (arith, h.0.above))
    (before_from (64 * p.0) p.1 (memory_of pages) rest (omega (arith, h.0.page.long, h.0.below))
    h.0.page.small)

pub at_same : (a b : ℕ) → a ≡ b → is_at (nat_cmp a) b ≡ true
at_same a b e = rw (le-ltb a b (omega (arith, e)), eq-eqb a b e) refl

pub at_other : (a b : ℕ) → (a ≡ b → ⊥) → is_at (nat_cmp a) b ≡ false
at_other a b ne = elim (order_cases a b) [
  | inl lt ↦ rw (lt-ltb a b lt) refl
  | inr rest ↦
      rw (
        le-ltb a b (elim rest [ inl gt ↦ omega (arith, gt) | inr e ↦ absurd (ne e) ]),
        ne_eqb a b ne,
      ) refl
]

-- a byte of the memory is in its page
pub byte_of : (low : ℕ) (pages : Pages) (c : ℕ) → ArePages low pages
    → byte (memory_of pages) c ≡ byte_in (page_at pages (c / 64)) c
byte_of low [] c h = refl
byte_of low (p ∷ pages) c h =
    let rest : IsFrom (64 * p.0 + length p.1) (memory_of pages) =
    subst (λ n. IsFrom n (memory_of pages)) (omega (arith, h.0.page.long))
    (pages_from (p.0 + 1) pages h.1) in
    let below : 64 * p.0 + length p.1 ≤ 2 ^ 32 = omega (arith, h.0.page.long, h.0.below) in
    elim (cases_eq (c / 64) p.0) [
      | inl e ↦
          let at : c ≡ 64 * p.0 + c % 64 = omega (arith, e) in
          rw (at_same (c / 64) p.0 e)
          (ap (byte (bytes_before (64 * p.0) p.1 (memory_of pages))) at
          ∙ before_in (64 * p.0) p.1 (memory_of pages) (c % 64) rest below h.0.page.small
          (omega (arith, h.0.page.long)))
      | inr ne ↦
          let out : (c < 64 * p.0) ⊎ (64 * p.0 + length p.1 ≤ c) = elim (cases_lt c (64 * p.0)) [
            | inl l ↦ inl l
            | inr g ↦
                inr (elim (cases_lt c (64 * p.0 + 64)) [
                  | inl l ↦ absurd (ne (omega (arith, g, l)))
                  | inr k ↦ omega (arith, k, h.0.page.long)
                ])
          ] in
          rw (at_other (c / 64) p.0 ne)
          (before_out (64 * p.0) p.1 (memory_of pages) c rest below h.0.page.small out
          ∙ byte_of (p.0 + 1) pages c h.1)
    ]

-- pages after one is inserted
pub insert_pages : (low : ℕ) (pages : Pages) (k : ℕ) (page : List ℕ) → ArePages low pages → low ≤ k
    → k < 2 ^ 26 → IsPage page → ArePages low (insert_entry nat_cmp pages k page)
insert_pages low [] k page h le below is = (record { above = le; below = below; page = is }, tt)
insert_pages low (p ∷ pages) k page h le below is = elim (order_cases k p.0) [
  | inl lt ↦
      rw (lt-ltb k p.0 lt) (
        record { above = le; below = below; page = is },
        (record { above = omega (arith, lt); below = h.0.below; page = h.0.page }, h.1),
      )
  | inr rest ↦ elim rest [
    | inl gt ↦
        rw (le-ltb k p.0 (omega (arith, gt)), ne_eqb k p.0 (λ e. absurd (omega (arith, e, gt)))) (
          h.0,
          insert_pages (p.0 + 1) pages k page h.1 (omega (arith, gt)) below is,
        )
    | inr e ↦
        rw (le-ltb k p.0 (omega (arith, e)), eq-eqb k p.0 e) (
          record { above = h.0.above; below = h.0.below; page = is },
          h.1,
        )
  ]
]

pub set_pages : (low : ℕ) (pages : Pages) (k : ℕ) (page : List ℕ) → ArePages low pages → IsPage page
    → ArePages low (set_value (is_at (nat_cmp k)) pages page)
set_pages low [] k page h is = tt
set_pages low (p ∷ pages) k page h is = elim (cases_Bool (is_at (nat_cmp k) p.0)) [
  | inl e ↦ rw e (record { above = h.0.above; below = h.0.below; page = is }, h.1)
  | inr e ↦ rw e (h.0, set_pages (p.0 + 1) pages k page h.1 is)
]

pub page_is : (low : ℕ) (pages : Pages) (k : ℕ) (page : List ℕ) → ArePages low pages
    → lookup (is_at (nat_cmp k)) pages ≡ Some page → IsPage page
page_is low [] k page h e = absurd (cc)
page_is low (p ∷ pages) k page h e = elim (cases_Bool (is_at (nat_cmp k) p.0)) [
  | inl t ↦ let f : Some p.1 ≡ Some page =
      rw t at e in let same : p.1 ≡ page = cc in subst IsPage same h.0.page
  | inr t ↦ page_is (p.0 + 1) pages k page h.1 (rw t at e)
]

-- a page with bytes written
one_written : (page : List ℕ) (at b : ℕ) → IsPage page → at < 64 → b < 2 ^ 8
    → IsPage (slice_set page at b)
one_written page at b h inside small =
    let inside : at < length page = omega (arith, h.long) in
    record {
      long = length-set page at b ∙ h.long;
      small = λ i. elim (cases_eq i at) [
        | inl e ↦ let f : slice_index (slice_set page at b) i ≡ b =
            ap (slice_index (slice_set page at b)) e ∙ get_or-set_same page at b 0 inside in
            omega (arith, f)
        | inr ne ↦ let f : slice_index (slice_set page at b) i ≡ slice_index page i =
            get_or-set_other page at i b 0 ne in omega (arith, f, h.small i)
      ];
    }

pub written_is : (n : ℕ) (page : List ℕ) (at value : ℕ) → IsPage page → at + n ≤ 64
    → IsPage (page_with_value n page at value)
written_is zero page at value h fits = h
written_is (suc n) page at value h fits =
    written_is n (slice_set page at (value % 2 ^ 8)) (at + 1) (value / 2 ^ 8)
    (one_written page at (value % 2 ^ 8) h (omega arith) (omega arith)) (omega arith)

-- a page has the bytes of a memory at the addresses of its number
abbrev pub Shows : List ℕ → ℕ → Memory → Type 0
Shows page k memory = (c : ℕ) → c / 64 ≡ k → byte memory c ≡ byte_in page c

one_shown : (memory : Memory) (page : List ℕ) (k at b : ℕ) → IsMemory memory → IsPage page
    → Shows page k memory → at < 64
    → Shows (slice_set page at b) k (put_byte memory (64 * k + at) b)
one_shown memory page k at b m p same fits d f =
    let a = 64 * k + at in
    let inside : at < length page = omega (arith, p.long) in
    byte_put 0 memory a b d m ∙ elim (cases_eq d a) [
      | inl q ↦
          let i : d % 64 ≡ at = omega (arith, q) in
          rw (eq-eqb a d (sym q))
          (sym (ap (slice_index (slice_set page at b)) i ∙ get_or-set_same page at b 0 inside))
      | inr ne ↦
          let other : d % 64 ≡ at → ⊥ = λ i. ne (omega (arith, i, f)) in
          rw (ne_eqb a d (λ q. ne (sym q)))
          (same d f ∙ sym (get_or-set_other page at (d % 64) b 0 other))
    ]

-- a store within a page writes to the page
stores_shown : (n : ℕ) (memory : Memory) (page : List ℕ) (k at value : ℕ) → IsMemory memory
    → IsPage page → Shows page k memory → k < 2 ^ 26 → at + n ≤ 64
    → Shows (page_with_value n page at value) k (put_bytes n memory (64 * k + at) value)
stores_shown zero memory page k at value m p same below fits = same
stores_shown (suc zero) memory page k at value m p same below fits =
    one_shown memory page k at (value % 2 ^ 8) m p same (omega arith)
stores_shown (suc (suc n)) memory page k at value m p same below fits =
    let a = 64 * k + at in
    let b = value % 2 ^ 8 in
    let next : next_byte a ≡ 64 * k + (at + 1) = omega arith in
    rw next
    (stores_shown (suc n) (put_byte memory a b) (slice_set page at b) k (at + 1) (value / 2 ^ 8)
    (put_from 0 memory a b m (omega arith) (omega arith) (omega arith))
    (one_written page at b p (omega arith) (omega arith))
    (one_shown memory page k at b m p same (omega arith)) below (omega arith))

-- it does not change the bytes of other pages
stores_beside : (n : ℕ) (memory : Memory) (k at value c : ℕ) → IsMemory memory → k < 2 ^ 26
    → at + n ≤ 64 → (c / 64 ≡ k → ⊥)
    → byte (put_bytes n memory (64 * k + at) value) c ≡ byte memory c
stores_beside zero memory k at value c m below fits out = refl
stores_beside (suc zero) memory k at value c m below fits out =
    byte_put 0 memory (64 * k + at) (value % 2 ^ 8) c m
    ∙ rw (ne_eqb (64 * k + at) c (λ q. out (omega (arith, q)))) refl
stores_beside (suc (suc n)) memory k at value c m below fits out =
    let a = 64 * k + at in
    let b = value % 2 ^ 8 in
    let next : next_byte a ≡ 64 * k + (at + 1) = omega arith in
    rw next
    (stores_beside (suc n) (put_byte memory a b) k (at + 1) (value / 2 ^ 8) c
    (put_from 0 memory a b m (omega arith) (omega arith) (omega arith)) below (omega arith) out
    ∙ byte_put 0 memory a b c m
    ∙ rw (ne_eqb a c (λ q. out (omega (arith, q)))) refl)

-- pages that differ in one page at most
pub record HasPage (old new : Pages) (k : ℕ) (page : List ℕ) : Type 0 where
  pub pages : ArePages 0 new
  pub here : page_at new k ≡ page
  pub others : (q : ℕ) → (q ≡ k → ⊥) → page_at new q ≡ page_at old q

pub stores : (n : ℕ) (old new : Pages) (k at value : ℕ) (page : List ℕ) → ArePages 0 old
    → IsPage page → Shows page k (memory_of old) → k < 2 ^ 26 → at < 64 → at + n ≤ 64
    → HasPage old new k (page_with_value n page at value)
    → memory_of new ≡ put_bytes n (memory_of old) (64 * k + at) value
stores n old new k at value page h is same below start fits put =
    let m : IsMemory (memory_of old) = pages_from 0 old h in
    same_bytes 0 _ _ (pages_from 0 new put.pages)
    (put_bytes_from n (memory_of old) (64 * k + at) value m (omega arith)) (λ c.
    byte_of 0 new c put.pages ∙ elim (cases_eq (c / 64) k) [
      | inl e ↦
          ap (λ p. byte_in p c) (ap (page_at new) e ∙ put.here)
          ∙ sym (stores_shown n (memory_of old) page k at value m is same below fits c e)
      | inr ne ↦
          ap (λ p. byte_in p c) (put.others (c / 64) ne) ∙ sym (byte_of 0 old c h)
          ∙ sym (stores_beside n (memory_of old) k at value c m below fits ne)
    ])

-- a stored page shows the memory; without one, a page of zeros does
pub page_shows : (pages : Pages) (k : ℕ) (page : List ℕ) → ArePages 0 pages
    → lookup (is_at (nat_cmp k)) pages ≡ Some page → Shows page k (memory_of pages)
page_shows pages k page h e c f =
    byte_of 0 pages c h ∙ ap (λ q. byte_in (page_at pages q) c) f
    ∙ ap (λ o. byte_in (unwrap_or o []) c) e

pub zeros_show : (pages : Pages) (k : ℕ) → ArePages 0 pages
    → lookup (is_at (nat_cmp k)) pages ≡ None → Shows (replicate 64 0) k (memory_of pages)
zeros_show pages k h e c f =
    byte_of 0 pages c h ∙ ap (λ q. byte_in (page_at pages q) c) f
    ∙ ap (λ o. byte_in (unwrap_or o []) c) e ∙ sym (get_or-replicate 64 (c % 64) 0 0 (omega arith))

pub zeros_are : IsPage (replicate 64 0)
zeros_are = record { long = length-replicate {A = ℕ} 64 0; small = λ i. small i } where
  small : (i : ℕ) → slice_index (replicate 64 0) i < 2 ^ 8
  small i = elim (cases_lt i 64) [
    | inl l ↦ let f : slice_index (replicate 64 0) i ≡ 0 =
        get_or-replicate 64 i 0 0 l in omega (arith, f)
    | inr g ↦ let f : slice_index (replicate 64 0) i ≡ 0 =
        get_or_past (replicate 64 0) i 0 (omega (arith, length-replicate {A = ℕ} 64 0)) in
        omega (arith, f)
  ]

-- storing zeros where all bytes are 0 changes nothing
pub stores_nothing : (n : ℕ) (memory : Memory) (k at : ℕ) → IsMemory memory → k < 2 ^ 26 → at < 64
    → at + n ≤ 64 → ((c : ℕ) → c / 64 ≡ k → byte memory c ≡ 0)
    → put_bytes n memory (64 * k + at) 0 ≡ memory
stores_nothing n memory k at m below start fits none =
    same_bytes 0 _ memory (put_bytes_from n memory (64 * k + at) 0 m (omega arith)) m
    (λ c. elim (cases_eq (c / 64) k) [
      | inl e ↦
          stores_shown n memory (replicate 64 0) k at 0 m zeros_are
          (λ d f. none d f ∙ sym (get_or-replicate 64 (d % 64) 0 0 (omega arith))) below fits c e
          ∙ blank n (replicate 64 0) at c (λ i. zeros i) ∙ sym (none c e)
      | inr ne ↦ stores_beside n memory k at 0 c m below fits ne
    ])
  where
    zeros : (i : ℕ) → slice_index (replicate 64 0) i ≡ 0
    zeros i = elim (cases_lt i 64) [
      | inl l ↦ get_or-replicate 64 i 0 0 l
      | inr g ↦ get_or_past (replicate 64 0) i 0 (omega (arith, length-replicate {A = ℕ} 64 0))
    ]

    blank : (j : ℕ) (page : List ℕ) (from c : ℕ) → ((i : ℕ) → slice_index page i ≡ 0)
        → byte_in (page_with_value j page from 0) c ≡ 0
    blank zero page from c h = h (c % 64)
    blank (suc j) page from c h =
        blank j (slice_set page from 0) (from + 1) c (λ i. elim (cases_eq i from) [
          | inl e ↦ elim (cases_lt from (length page)) [
            | inl l ↦ ap (slice_index (slice_set page from 0)) e ∙ get_or-set_same page from 0 0 l
            | inr g ↦
                get_or_past (slice_set page from 0) i 0 (omega (arith, length-set page from 0))
          ]
          | inr ne ↦ get_or-set_other page from i 0 0 ne ∙ h i
        ])

-- pages after one of them is replaced
set_here : (es : Pages) (k : ℕ) (page w : List ℕ) → lookup (is_at (nat_cmp k)) es ≡ Some page
    → lookup (is_at (nat_cmp k)) (set_value (is_at (nat_cmp k)) es w) ≡ Some w
set_here [] k page w h = absurd (cc)
set_here (e ∷ es) k page w h = elim (cases_Bool (is_at (nat_cmp k) e.0)) [
  | inl t ↦ rw (t, t) refl
  | inr t ↦ rw (t, t) (set_here es k page w (rw t at h))
]

set_others : (es : Pages) (k q : ℕ) (w : List ℕ) → (q ≡ k → ⊥)
    → lookup (is_at (nat_cmp q)) (set_value (is_at (nat_cmp k)) es w)
    ≡ lookup (is_at (nat_cmp q)) es
set_others [] k q w ne = refl
set_others (e ∷ es) k q w ne = elim (cases_eq k e.0) [
  | inl t ↦
      let other : q ≡ e.0 → ⊥ = λ s. ne (s ∙ sym t) in
      rw (at_same k e.0 t, at_other q e.0 other) refl
  | inr t ↦ elim (cases_eq q e.0) [
    | inl s ↦ rw (at_other k e.0 t, at_same q e.0 s) refl
    | inr s ↦ rw (at_other k e.0 t, at_other q e.0 s) (set_others es k q w ne)
  ]
]

pub set_put : (old after : Pages) (k : ℕ) (page w : List ℕ) → ArePages 0 old
    → lookup (is_at (nat_cmp k)) old ≡ Some page → IsPage w
    → after ≡ set_value (is_at (nat_cmp k)) old w → HasPage old after k w
set_put old after k page w h e is same = rw same (record {
  pages = set_pages 0 old k w h is;
  here = ap (λ o. unwrap_or o []) (set_here old k page w e);
  others = λ q ne. ap (λ o. unwrap_or o []) (set_others old k q w ne);
})

pub insert_put : (old after : Pages) (k : ℕ) (w : List ℕ) → ArePages 0 old → k < 2 ^ 26 → IsPage w
    → after ≡ insert_entry nat_cmp old k w
    → ((q : ℕ) → lookup (is_at (nat_cmp q)) after
    ≡ cond (is_at (nat_cmp k) q) (Some w) (lookup (is_at (nat_cmp q)) old)) → HasPage old after k w
insert_put old after k w h below is same each =
    let this : lookup (is_at (nat_cmp k)) after ≡ Some w =
    each k ∙ ap (λ t. cond t (Some w) (lookup (is_at (nat_cmp k)) old)) (at_same k k refl) in
    let other : (q : ℕ) → (q ≡ k → ⊥)
    → lookup (is_at (nat_cmp q)) after ≡ lookup (is_at (nat_cmp q)) old = λ q ne.
    each q ∙ ap (λ t. cond t (Some w) (lookup (is_at (nat_cmp q)) old))
    (at_other k q (λ s. ne (sym s))) in
    record {
      pages = subst (ArePages 0) (sym same) (insert_pages 0 old k w h (omega arith) below is);
      here = ap (λ o. unwrap_or o []) this;
      others = λ q ne. ap (λ o. unwrap_or o []) (other q ne);
    }

-- a store within a page, by the page that it changes
pub stored_in : (n : ℕ) (old after : Pages) (a value : ℕ) (page w : List ℕ) → ArePages 0 old
    → IsPage page → Shows page (a / 64) (memory_of old) → a < 2 ^ 32 → a % 64 + n ≤ 64
    → w ≡ page_with_value n page (a % 64) value → HasPage old after (a / 64) w
    → memory_of after ≡ put_bytes n (memory_of old) a value
stored_in n old after a value page w h is shows below fits e put =
    let at : 64 * (a / 64) + a % 64 ≡ a = omega arith in
    stores n old after (a / 64) (a % 64) value page h is shows (omega arith) (omega arith) fits
    (subst (HasPage old after (a / 64)) e put)
    ∙ ap (λ x. put_bytes n (memory_of old) x value) at

pub stored_none : (n : ℕ) (old : Pages) (a : ℕ) → ArePages 0 old
    → lookup (is_at (nat_cmp (a / 64))) old ≡ None → a < 2 ^ 32 → a % 64 + n ≤ 64
    → memory_of old ≡ put_bytes n (memory_of old) a 0
stored_none n old a h none below fits =
    let at : 64 * (a / 64) + a % 64 ≡ a = omega arith in
    sym (ap (λ x. put_bytes n (memory_of old) x 0) (sym at)
    ∙ stores_nothing n (memory_of old) (a / 64) (a % 64) (pages_from 0 old h) (omega arith)
    (omega arith) fits (λ c f. byte_of 0 old c h ∙ ap (λ q. byte_in (page_at old q) c) f
    ∙ ap (λ o. byte_in (unwrap_or o []) c) none))

-- a byte that is read from a page
pub byte_read : (pages : Pages) (a : ℕ) (page : List ℕ) → ArePages 0 pages
    → lookup (is_at (nat_cmp (a / 64))) pages ≡ Some page
    → byte (memory_of pages) a ≡ slice_index page (a % 64)
byte_read pages a page h e = page_shows pages (a / 64) page h e a refl

pub byte_none : (pages : Pages) (a : ℕ) → ArePages 0 pages
    → lookup (is_at (nat_cmp (a / 64))) pages ≡ None → byte (memory_of pages) a ≡ 0
byte_none pages a h e = byte_of 0 pages a h ∙ ap (λ o. byte_in (unwrap_or o []) a) e

byte_past : (memory : Memory) (page : List ℕ) (a i b : ℕ) → Shows page (a / 64) memory → b ≡ a + i
    → a % 64 + i < 64 → byte memory b ≡ slice_index page (a % 64 + i)
byte_past memory page a i b shows e fits =
    let at : b % 64 ≡ a % 64 + i = omega (arith, e) in
    shows b (omega (arith, e)) ∙ ap (slice_index page) at

pub whole_read : (memory : Memory) (page : List ℕ) (a : ℕ) → Shows page (a / 64) memory → a < 2 ^ 32
    → a % 64 + 4 ≤ 64 → memory_word memory a ≡ page_word page (a % 64)
whole_read memory page a shows below fits =
    let one = next_byte a in
    let two = next_byte one in
    let three = next_byte two in
    let e1 : one ≡ a + 1 = omega arith in
    let e2 : two ≡ a + 2 = omega arith in
    let e3 : three ≡ a + 3 = omega arith in
    let z : a % 64 + 0 ≡ a % 64 = omega arith in
    let b0 : byte memory a ≡ slice_index page (a % 64) =
    byte_past memory page a 0 a shows (omega arith) (omega arith) ∙ ap (slice_index page) z in
    let b1 = byte_past memory page a 1 one shows e1 (omega arith) in
    let b2 = byte_past memory page a 2 two shows e2 (omega arith) in
    let b3 = byte_past memory page a 3 three shows e3 (omega arith) in
    rw (b0, b1, b2, b3) refl

pub whole_none : (memory : Memory) (a : ℕ) → a < 2 ^ 32 → a % 64 + 4 ≤ 64
    → ((c : ℕ) → c / 64 ≡ a / 64 → byte memory c ≡ 0) → memory_word memory a ≡ 0
whole_none memory a below fits none =
    let one = next_byte a in
    let two = next_byte one in
    let three = next_byte two in
    let b0 = none a refl in
    let b1 = none one (omega arith) in
    let b2 = none two (omega arith) in
    let b3 = none three (omega arith) in
    rw (b0, b1, b2, b3) refl

-- a store to a page that is stored, and one that inserts a page
pub found_put : (n : ℕ) (old after : Pages) (a value : ℕ) (page w : List ℕ) → ArePages 0 old
    → a % 64 + n ≤ 64 → Some page ≡ lookup (is_at (nat_cmp (a / 64))) old
    → w ≡ page_with_value n page (a % 64) value → after ≡ set_value (is_at (nat_cmp (a / 64))) old w
    → HasPage old after (a / 64) w
found_put n old after a value page w h fits found e same =
    let is : IsPage page = page_is 0 old (a / 64) page h (sym found) in
    set_put old after (a / 64) page w h (sym found)
    (subst IsPage (sym e) (written_is n page (a % 64) value is fits)) same

pub found_stored : (n : ℕ) (old after : Pages) (a value : ℕ) (page w : List ℕ) → ArePages 0 old
    → a < 2 ^ 32 → a % 64 + n ≤ 64 → Some page ≡ lookup (is_at (nat_cmp (a / 64))) old
    → w ≡ page_with_value n page (a % 64) value → after ≡ set_value (is_at (nat_cmp (a / 64))) old w
    → memory_of after ≡ put_bytes n (memory_of old) a value
found_stored n old after a value page w h below fits found e same =
    stored_in n old after a value page w h (page_is 0 old (a / 64) page h (sym found))
    (page_shows old (a / 64) page h (sym found)) below fits e
    (found_put n old after a value page w h fits found e same)

pub made_put : (n : ℕ) (old after : Pages) (a value : ℕ) (w : List ℕ) → ArePages 0 old → a < 2 ^ 32
    → a % 64 + n ≤ 64 → w ≡ page_with_value n (replicate 64 0) (a % 64) value
    → after ≡ insert_entry nat_cmp old (a / 64) w → ArePages 0 after
made_put n old after a value w h below fits e same =
    subst (ArePages 0) (sym same)
    (insert_pages 0 old (a / 64) w h (omega arith) (omega arith)
    (subst IsPage (sym e) (written_is n (replicate 64 0) (a % 64) value zeros_are fits)))

pub made_stored : (n : ℕ) (old after : Pages) (a value : ℕ) (w : List ℕ) → ArePages 0 old
    → a < 2 ^ 32 → a % 64 + n ≤ 64 → None ≡ lookup (is_at (nat_cmp (a / 64))) old
    → w ≡ page_with_value n (replicate 64 0) (a % 64) value
    → after ≡ insert_entry nat_cmp old (a / 64) w
    → ((q : ℕ) → lookup (is_at (nat_cmp q)) after
    ≡ cond (is_at (nat_cmp (a / 64)) q) (Some w) (lookup (is_at (nat_cmp q)) old))
    → memory_of after ≡ put_bytes n (memory_of old) a value
made_stored n old after a value w h below fits none e same each =
    stored_in n old after a value (replicate 64 0) w h zeros_are
    (zeros_show old (a / 64) h (sym none)) below fits e
    (insert_put old after (a / 64) w h (omega arith)
    (subst IsPage (sym e) (written_is n (replicate 64 0) (a % 64) value zeros_are fits)) same each)

-- without a stored page the bytes of its number are 0
pub none_shows : (pages : Pages) (k : ℕ) → ArePages 0 pages
    → lookup (is_at (nat_cmp k)) pages ≡ None → (c : ℕ) → c / 64 ≡ k → byte (memory_of pages) c ≡ 0
none_shows pages k h none c f =
    byte_of 0 pages c h ∙ ap (λ q. byte_in (page_at pages q) c) f
    ∙ ap (λ o. byte_in (unwrap_or o []) c) none
