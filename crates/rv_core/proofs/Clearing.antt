-- The memory after a range is cleared.
use Rattle.std.proofs.Common.{◌≡◌, ℕ, zero, suc, ◌+◌, ◌*◌, ◌/◌, ◌^◌, ◌-◌, ◌<◌, ◌≤◌, true, false}
use Rattle.std.proofs.Common.{nat_lt, if◌then◌else◌, [], ◌∷◌, arith, refl, sym, ap, ◌∙◌, inl, inr}
use Rattle.std.proofs.Common.{◌⊎◌, unwrap_or, None, filter, nat_le, is_le, nat_cmp}
use Rattle.std.proofs.lemmas.Bool.{and_from, and_parts, cases_Bool, cases_lt, cases_eq, false≢true}
use Rattle.std.proofs.lemmas.Bool.{lt-ltb, le-ltb, le-leb, leb-true, ltb-true, eq-eqb, ne_eqb}
use Rattle.std.proofs.lemmas.Bool.Decides.{nat_tests}
use Rattle.std.specs.BTreeMap.{is_at}
use Rattle.std.specs.BTreeMap.Range.{entries_between, range_contains}
use Rattle.std.specs.declared.ops.Bound.TheVariants.{Included, Excluded}
use Rattle.std.specs.Map.{lookup, remove_entry}
use Rattle.rv_core.specs.Memory.{Memory, IsMemory, byte, put_byte, next_byte, is_within}
use Rattle.rv_core.specs.Memory.{clear_bytes}
use Rattle.rv_core.specs.Inner.Memory.{put_bytes}
use Rattle.rv_core.specs.Inner.Pages.{Pages, memory_of, ArePages, byte_in, is_not_between}
use Rattle.rv_core.proofs.Memories.{byte_after_clear, byte_put, clear_from, put_bytes_from}
use Rattle.rv_core.proofs.Memories.{put_from, same_bytes}
use Rattle.rv_core.proofs.Pages.{at_other, at_same, byte_of, pages_from}

-- whether an address is in a cleared range, by its bounds
within_true : (a n c : ℕ) → a ≤ c → c < a + n → is_within a n c ≡ true
within_true a n c l r = and_from _ _ (le-leb a c l) (lt-ltb c (a + n) r)

within_is : (a n c : ℕ) → is_within a n c ≡ true → (a ≤ c) × (c < a + n)
within_is a n c h =
    let p = and_parts (nat_le a c) (nat_lt c (a + n)) h in
    (leb-true a c p.0, ltb-true c (a + n) p.1)

within_false : (a n c : ℕ) → (c < a) ⊎ (a + n ≤ c) → is_within a n c ≡ false
within_false a n c out = elim (cases_Bool (is_within a n c)) [
  | inl t ↦ let w = within_is a n c t in elim out [
    | inl l ↦ absurd (omega (arith, w.0, l))
    | inr g ↦ absurd (omega (arith, w.1, g))
  ]
  | inr f ↦ f
]

within_not : (a n c : ℕ) → is_within a n c ≡ false → (c < a) ⊎ (a + n ≤ c)
within_not a n c h = elim (cases_lt c a) [
  | inl l ↦ inl l
  | inr g ↦ elim (cases_lt c (a + n)) [
    | inl l ↦ absurd (false≢true (sym h ∙ within_true a n c g l))
    | inr k ↦ inr k
  ]
]

-- storing zeros clears
zeros_byte : (n : ℕ) (memory : Memory) (a c : ℕ) → IsMemory memory → a < 2 ^ 32 → a + n ≤ 2 ^ 32
    → byte (put_bytes n memory a 0) c ≡ (if is_within a n c then 0 else byte memory c)
zeros_byte zero memory a c m below fits =
    let out : is_within a 0 c
    ≡ false =
    within_false a 0 c (elim (cases_lt c a) [ inl l ↦ inl l | inr g ↦ inr (omega arith) ]) in
    rw out refl
zeros_byte (suc zero) memory a c m below fits = byte_put 0 memory a 0 c m ∙ elim (cases_eq a c) [
  | inl e ↦ rw (eq-eqb a c e, within_true a (suc zero) c (omega arith) (omega arith)) refl
  | inr ne ↦
      rw (
        ne_eqb a c ne,
        within_false a (suc zero) c
            (elim (cases_lt c a) [
              | inl l ↦ inl l
              | inr g ↦
                  inr (elim (cases_lt c (a + 1)) [
                    | inl k ↦ absurd (ne (omega (arith, g, k)))
                    | inr k ↦ omega (arith, k)
                  ])
            ]),
      ) refl
]
zeros_byte (suc (suc n)) memory a c m below fits =
    let next : next_byte a ≡ a + 1 = omega arith in
    let put : IsMemory (put_byte memory a 0) =
    put_from 0 memory a 0 m (omega arith) below (omega arith) in
    ap (λ x. byte (put_bytes (suc n) (put_byte memory a 0) x 0) c) next
    ∙ zeros_byte (suc n) (put_byte memory a 0) (a + 1) c put (omega arith) (omega arith)
    ∙ ap (λ x. if is_within (a + 1) (suc n) c then 0 else x) (byte_put 0 memory a 0 c m)
    ∙ elim (cases_eq a c) [
      | inl e ↦
          rw (
            eq-eqb a c e,
            within_false (a + 1) (suc n) c (inl (omega arith)),
            within_true a (suc (suc n)) c (omega arith) (omega arith),
          ) refl
      | inr ne ↦ elim (cases_Bool (is_within (a + 1) (suc n) c)) [
        | inl t ↦ let w =
            within_is (a + 1) (suc n) c t in
            rw (t, within_true a (suc (suc n)) c (omega (arith, w.0)) (omega (arith, w.1))) refl
        | inr f ↦
            let out : (c < a) ⊎ (a + suc (suc n) ≤ c) = elim (within_not (a + 1) (suc n) c f) [
              | inl l ↦
                  inl (elim (cases_lt c a) [
                    | inl k ↦ k
                    | inr g ↦ absurd (ne (omega (arith, l, g)))
                  ])
              | inr g ↦ inr (omega (arith, g))
            ] in
            rw (f, ne_eqb a c ne, within_false a (suc (suc n)) c out) refl
      ]
    ]

pub zeros_clear : (n : ℕ) (memory : Memory) (a : ℕ) → IsMemory memory → a < 2 ^ 32 → a + n ≤ 2 ^ 32
    → put_bytes n memory a 0 ≡ clear_bytes memory a n
zeros_clear n memory a m below fits =
    same_bytes 0 _ _ (put_bytes_from n memory a 0 m below) (clear_from 0 memory a n m)
    (λ c. zeros_byte n memory a c m below fits ∙ sym (byte_after_clear memory a n c))

-- pages outside a range of page numbers
outside_true : (first last k : ℕ) → (k < first) ⊎ (last ≤ k) → is_not_between first last k ≡ true
outside_true first last k (inl l) = rw (lt-ltb k first l) refl
outside_true first last k (inr g) = elim (cases_Bool (nat_lt k first)) [
  | inl t ↦ rw t refl
  | inr f ↦ rw (f, le-leb last k g) refl
]

outside_false : (first last k : ℕ) → first ≤ k → k < last → is_not_between first last k ≡ false
outside_false first last k l r =
    let a : nat_lt k first ≡ false = grind (arith, nat_tests) in
    let b : nat_le last k ≡ false = grind (arith, nat_tests) in
    rw (a, b) refl

higher : (low high : ℕ) (pages : Pages) → low ≤ high → ArePages high pages → ArePages low pages
higher low high [] le h = tt
higher low high (p ∷ pages) le h =
    (record { above = omega (arith, h.0.above); below = h.0.below; page = h.0.page }, h.1)

pub outside_pages : (low : ℕ) (pages : Pages) (first last : ℕ) → ArePages low pages
    → ArePages low (filter (λ e. is_not_between first last e.0) pages)
outside_pages low [] first last h = tt
outside_pages low (p ∷ pages) first last h = elim (cases_Bool (is_not_between first last p.0)) [
  | inl t ↦ rw t (h.0, outside_pages (p.0 + 1) pages first last h.1)
  | inr f ↦
      rw f (higher low (p.0 + 1) _ (omega (arith, h.0.above))
      (outside_pages (p.0 + 1) pages first last h.1))
]

outside_kept : (pages : Pages) (first last q : ℕ) → is_not_between first last q ≡ true
    → lookup (is_at (nat_cmp q)) (filter (λ e. is_not_between first last e.0) pages)
    ≡ lookup (is_at (nat_cmp q)) pages
outside_kept [] first last q t = refl
outside_kept (p ∷ pages) first last q t = elim (cases_eq q p.0) [
  | inl e ↦ let s : is_not_between first last p.0 ≡ true =
      ap (is_not_between first last) (sym e) ∙ t in rw (s, at_same q p.0 e) refl
  | inr ne ↦ elim (cases_Bool (is_not_between first last p.0)) [
    | inl s ↦ rw (s, at_other q p.0 ne) (outside_kept pages first last q t)
    | inr s ↦ rw (s, at_other q p.0 ne) (outside_kept pages first last q t)
  ]
]

outside_gone : (pages : Pages) (first last q : ℕ) → is_not_between first last q ≡ false
    → lookup (is_at (nat_cmp q)) (filter (λ e. is_not_between first last e.0) pages) ≡ None
outside_gone [] first last q f = refl
outside_gone (p ∷ pages) first last q f = elim (cases_Bool (is_not_between first last p.0)) [
  | inl s ↦
      let ne : q ≡ p.0 → ⊥ = λ e. false≢true (sym f ∙ ap (is_not_between first last) e ∙ s) in
      rw (s, at_other q p.0 ne) (outside_gone pages first last q f)
  | inr s ↦ rw s (outside_gone pages first last q f)
]

-- a number that is not outside is in the range
inside_between : (first last q : ℕ) → is_not_between first last q ≡ false
    → range_contains nat_cmp (Included first) (Excluded last) q ≡ true
inside_between first last q f =
    let low : first ≤ q = elim (cases_lt q first) [
      | inl l ↦ absurd (false≢true (sym f ∙ outside_true first last q (inl l)))
      | inr g ↦ g
    ] in
    let high : q < last = elim (cases_lt q last) [
      | inl l ↦ l
      | inr g ↦ absurd (false≢true (sym f ∙ outside_true first last q (inr g)))
    ] in
    let end : is_le (nat_cmp last q) ≡ false =
    rw (le-ltb last q (omega (arith, high)), ne_eqb last q (λ e. absurd (omega (arith, high, e))))
    refl in
    let start : is_le (nat_cmp first q) ≡ true = elim (cases_eq first q) [
      | inl e ↦ rw (le-ltb first q (omega (arith, e)), eq-eqb first q e) refl
      | inr ne ↦
          rw (lt-ltb first q (elim (cases_lt first q) [
            | inl l ↦ l
            | inr g ↦ absurd (ne (omega (arith, g, low)))
          ])) refl
    ] in
    rw (start, end) refl

-- if no page is in the range, all are outside
pub none_between : (first last : ℕ) (pages : Pages)
    → entries_between nat_cmp (Included first) (Excluded last) pages ≡ []
    → filter (λ e. is_not_between first last e.0) pages ≡ pages
none_between first last [] h = refl
none_between first last (p ∷ pages) h = elim (cases_Bool (is_not_between first last p.0)) [
  | inl t ↦ elim (cases_Bool (range_contains nat_cmp (Included first) (Excluded last) p.0)) [
    | inl s ↦ let e : p ∷ entries_between nat_cmp (Included first) (Excluded last) pages ≡ [] =
        rw s at h in absurd (cc)
    | inr s ↦ rw t (ap (λ (m : Pages). p ∷ m) (none_between first last pages (rw s at h)))
  ]
  | inr f ↦ let e : p ∷ entries_between nat_cmp (Included first) (Excluded last) pages ≡ [] =
      rw (inside_between first last p.0 f) at h in absurd (cc)
]

-- removing a page of the range does not change those outside
pub outside_removed : (pages : Pages) (first last k : ℕ) → is_not_between first last k ≡ false
    → filter (λ e. is_not_between first last e.0) (remove_entry (is_at (nat_cmp k)) pages)
    ≡ filter (λ e. is_not_between first last e.0) pages
outside_removed [] first last k f = refl
outside_removed (p ∷ pages) first last k f = elim (cases_eq k p.0) [
  | inl e ↦ let s : is_not_between first last p.0 ≡ false =
      ap (is_not_between first last) (sym e) ∙ f in rw (at_same k p.0 e, s) refl
  | inr ne ↦ elim (cases_Bool (is_not_between first last p.0)) [
    | inl s ↦
        rw (at_other k p.0 ne, s) (ap (λ (m : Pages). p ∷ m) (outside_removed pages first last k f))
    | inr s ↦ rw (at_other k p.0 ne, s) (outside_removed pages first last k f)
  ]
]

pub outside_clear : (pages : Pages) (first last : ℕ) → ArePages 0 pages → first ≤ last
    → memory_of (filter (λ e. is_not_between first last e.0) pages)
    ≡ clear_bytes (memory_of pages) (64 * first) (64 * last - 64 * first)
outside_clear pages first last h le =
    let rest = filter (λ e. is_not_between first last e.0) pages in
    let n = 64 * last - 64 * first in
    same_bytes 0 _ _ (pages_from 0 rest (outside_pages 0 pages first last h))
    (clear_from 0 (memory_of pages) (64 * first) n (pages_from 0 pages h)) (λ c.
    byte_of 0 rest c (outside_pages 0 pages first last h)
    ∙ elim (cases_Bool (is_within (64 * first) n c)) [
      | inl t ↦
          let w = within_is (64 * first) n c t in
          let gone : is_not_between first last (c / 64) ≡ false =
          outside_false first last (c / 64) (omega (arith, w.0)) (omega (arith, w.1)) in
          rw t (ap (λ o. byte_in (unwrap_or o []) c) (outside_gone pages first last (c / 64) gone))
      | inr f ↦
          let out : (c / 64 < first) ⊎ (last ≤ c / 64) = elim (within_not (64 * first) n c f) [
            | inl l ↦ inl (omega (arith, l))
            | inr g ↦ inr (omega (arith, g))
          ] in
          rw f (ap (λ o. byte_in (unwrap_or o []) c)
          (outside_kept pages first last (c / 64) (outside_true first last (c / 64) out))
          ∙ sym (byte_of 0 pages c h))
    ]
    ∙ sym (byte_after_clear (memory_of pages) (64 * first) n c))

-- clearing a range in three parts
pub parts_clear : (memory : Memory) (a x y n : ℕ) → a ≤ x → x ≤ y → y ≤ a + n
    → clear_bytes (clear_bytes (clear_bytes memory x (y - x)) a (x - a)) y (a + n - y)
    ≡ clear_bytes memory a n
parts_clear [] a x y n p q r = refl
parts_clear (e ∷ memory) a x y n p q r =
    let rest = parts_clear memory a x y n p q r in
    elim (cases_Bool (is_within x (y - x) e.0)) [
      | inl t ↦ let w =
          within_is x (y - x) e.0 t in
          rw (t, within_true a n e.0 (omega (arith, w.0)) (omega (arith, w.1))) rest
      | inr f ↦ elim (cases_Bool (is_within a (x - a) e.0)) [
        | inl t ↦ let w =
            within_is a (x - a) e.0 t in
            rw (f, t, within_true a n e.0 w.0 (omega (arith, w.1))) rest
        | inr g ↦ elim (cases_Bool (is_within y (a + n - y) e.0)) [
          | inl t ↦ let w =
              within_is y (a + n - y) e.0 t in
              rw (f, g, t, within_true a n e.0 (omega (arith, w.0)) (omega (arith, w.1))) rest
          | inr k ↦
              let out : (e.0 < a) ⊎ (a + n ≤ e.0) = elim (within_not a (x - a) e.0 g) [
                | inl l ↦ inl l
                | inr b ↦ elim (within_not x (y - x) e.0 f) [
                  | inl l ↦ absurd (omega (arith, b, l))
                  | inr d ↦ elim (within_not y (a + n - y) e.0 k) [
                    | inl l ↦ absurd (omega (arith, d, l))
                    | inr z ↦ inr (omega (arith, z))
                  ]
                ]
              ] in
              rw (f, g, k, within_false a n e.0 out) (ap (λ (m : Memory). e ∷ m) rest)
        ]
      ]
    ]

pub none_clear : (memory : Memory) (a : ℕ) → clear_bytes memory a 0 ≡ memory
none_clear [] a = refl
none_clear (e ∷ memory) a =
    let out : is_within a 0 e.0 ≡ false =
    within_false a 0 e.0 (elim (cases_lt e.0 a) [ inl l ↦ inl l | inr g ↦ inr (omega arith) ]) in
    rw out (ap (λ (m : Memory). e ∷ m) (none_clear memory a))
