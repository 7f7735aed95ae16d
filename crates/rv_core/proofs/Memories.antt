-- The memory as a map: what a write changes, and that equal bytes make equal memories.
use Rattle.std.proofs.Common.{◌≡◌, ℕ, zero, suc, ◌+◌, ◌/◌, ◌%◌, ◌^◌, ◌-◌, ◌<◌, ◌≤◌, ◌==◌, true}
use Rattle.std.proofs.Common.{false, nat_lt, if◌then◌else◌, List, [], ◌∷◌, arith, refl, sym, ap}
use Rattle.std.proofs.Common.{◌∙◌, inl, inr, ◌⊎◌, subst, ltb-true, ltb-false, Result, Ok, Err, OnOk}
use Rattle.std.proofs.Common.{OnErr}
use Rattle.std.proofs.lemmas.Bool.{cases_Bool, eqb-true, ne_eqb}
use Rattle.rv_core.specs.Memory.{Memory, IsFrom, IsMemory, byte, prepend_byte, put_byte, is_within}
use Rattle.rv_core.specs.Memory.{clear_bytes, next_byte, put_half, put_whole}
use Rattle.rv_core.specs.Inner.Memory.{put_bytes}

other_numbers : (a b : ℕ) → (a == b) ≡ false → a ≡ b → ⊥
other_numbers a b h = grind arith

not_both : true ≡ false → ⊥
not_both e = cc

pub equal : (a : ℕ) → (a == a) ≡ true
equal a = grind arith

-- no byte below the first address
pub byte_below : (low : ℕ) (memory : Memory) (c : ℕ) → IsFrom low memory → c < low
    → byte memory c ≡ 0
byte_below low [] c h lt = refl
byte_below low (e ∷ memory) c h lt =
    let apart : (e.0 == c) ≡ false = ne_eqb e.0 c (λ same. absurd (omega (arith, h.0.above))) in
    rw apart (byte_below (e.0 + 1) memory c h.1 (omega (arith, h.0.above)))

pub from_lower : (low high : ℕ) (memory : Memory) → low ≤ high → IsFrom high memory
    → IsFrom low memory
from_lower low high [] le h = tt
from_lower low high (e ∷ memory) le h = (
  record { above = omega (arith, h.0.above); below = h.0.below; some = h.0.some; byte = h.0.byte },
  h.1,
)

pub byte_entry : (a b c : ℕ) (memory : Memory) → byte memory a ≡ 0
    → byte (prepend_byte a b memory) c ≡ (if a == c then b else byte memory c)
byte_entry a b c memory h = elim (cases_Bool (b == 0)) [
  | inl e ↦ rw e (zero_case (eqb-true b 0 e))
  | inr e ↦ rw e refl
]
  where
    zero_case : b ≡ 0 → byte memory c ≡ (if a == c then b else byte memory c)
    zero_case z = elim (cases_Bool (a == c)) [
      | inl e ↦ rw e (ap (byte memory) (sym (eqb-true a c e)) ∙ h ∙ sym z)
      | inr e ↦ rw e refl
    ]

-- a write changes one byte and no other
pub byte_put : (low : ℕ) (memory : Memory) (a b c : ℕ) → IsFrom low memory
    → byte (put_byte memory a b) c ≡ (if a == c then b else byte memory c)
byte_put low [] a b c h = byte_entry a b c [] refl
byte_put low (e ∷ memory) a b c h = elim (cases_Bool (nat_lt e.0 a)) [
  | inl lt ↦ rw (lt, byte_put (e.0 + 1) memory a b c h.1) (later (ltb-true e.0 a lt))
  | inr ge ↦ rw ge (elim (cases_Bool (e.0 == a)) [
    | inl same ↦
        rw (
          same,
          byte_entry a b c memory
              (byte_below (e.0 + 1) memory a h.1 (omega (arith, eqb-true e.0 a same))),
        ) (here (eqb-true e.0 a same))
    | inr apart ↦
        rw apart
        (byte_entry a b c (e ∷ memory)
        (rw apart
        (byte_below (e.0 + 1) memory a h.1
        (omega (arith, ltb-false e.0 a ge, other_numbers e.0 a apart)))))
  ])
]
  where
    later : e.0 < a → (if e.0 == c then e.1 else (if a == c then b else byte memory c))
        ≡ (if a == c then b else (if e.0 == c then e.1 else byte memory c))
    later lt = elim (cases_Bool (e.0 == c)) [
      | inl same ↦ let apart : (a == c) ≡ false =
          ne_eqb a c (λ q. absurd (omega (arith, lt, q, eqb-true e.0 c same))) in
          rw (same, apart) refl
      | inr other ↦ rw other refl
    ]

    here : e.0 ≡ a → (if a == c then b else byte memory c)
        ≡ (if a == c then b else (if e.0 == c then e.1 else byte memory c))
    here q = elim (cases_Bool (a == c)) [
      | inl same ↦ rw same refl
      | inr other ↦ let apart : (e.0 == c) ≡ false =
          ap (λ n. n == c) q ∙ other in rw (other, apart) refl
    ]

pub from_entry : (low a b : ℕ) (memory : Memory) → IsFrom (a + 1) memory → low ≤ a → a < 2 ^ 32
    → b < 2 ^ 8 → IsFrom low (prepend_byte a b memory)
from_entry low a b memory h le below small = elim (cases_Bool (b == 0)) [
  | inl e ↦ rw e (from_lower low (a + 1) memory (omega (arith, le)) h)
  | inr e ↦
      rw e (
        record {
          above = le;
          below = below;
          some = omega (arith, other_numbers b 0 e);
          byte = small;
        },
        h,
      )
]

-- a write keeps the memory sorted
pub put_from : (low : ℕ) (memory : Memory) (a b : ℕ) → IsFrom low memory → low ≤ a → a < 2 ^ 32
    → b < 2 ^ 8 → IsFrom low (put_byte memory a b)
put_from low [] a b h le below small = from_entry low a b [] tt le below small
put_from low (e ∷ memory) a b h le below small = elim (cases_Bool (nat_lt e.0 a)) [
  | inl lt ↦
      rw lt (h.0, put_from (e.0 + 1) memory a b h.1 (omega (arith, ltb-true e.0 a lt)) below small)
  | inr ge ↦ rw ge (elim (cases_Bool (e.0 == a)) [
    | inl same ↦
        rw same (from_entry low a b memory
        (subst (λ n. IsFrom (n + 1) memory) (eqb-true e.0 a same) h.1) le below small)
    | inr apart ↦
        rw apart
        (from_entry low a b (e ∷ memory) (
          record {
            above = omega (arith, ltb-false e.0 a ge, other_numbers e.0 a apart);
            below = h.0.below;
            some = h.0.some;
            byte = h.0.byte;
          },
          h.1,
        ) le below small)
  ])
]

byte_first : (e : ℕ × ℕ) (memory : Memory) → byte (e ∷ memory) e.0 ≡ e.1
byte_first e memory = rw (equal e.0) refl

pub order_cases : (a b : ℕ) → (a < b) ⊎ ((b < a) ⊎ (a ≡ b))
order_cases a b = elim (cases_Bool (nat_lt a b)) [
  | inl e ↦ inl (ltb-true a b e)
  | inr e ↦ elim (cases_Bool (nat_lt b a)) [
    | inl f ↦ inr (inl (ltb-true b a f))
    | inr f ↦ inr (inr (omega (arith, ltb-false a b e, ltb-false b a f)))
  ]
]

-- memories with the same bytes are equal
pub same_bytes : (low : ℕ) (memory other : Memory) → IsFrom low memory → IsFrom low other
    → ((c : ℕ) → byte memory c ≡ byte other c) → memory ≡ other
same_bytes low [] [] h k same = refl
same_bytes low [] (f ∷ other) h k same =
    absurd (omega (arith, same f.0, byte_first f other, k.0.some))
same_bytes low (e ∷ memory) [] h k same =
    absurd (omega (arith, same e.0, byte_first e memory, h.0.some))
same_bytes low (e ∷ memory) (f ∷ other) h k same = elim (order_cases e.0 f.0) [
  | inl lt ↦
      absurd (omega (
        arith,
        same e.0,
        byte_first e memory,
        h.0.some,
        byte_below f.0 (f ∷ other) e.0 (
          record { above = omega arith; below = k.0.below; some = k.0.some; byte = k.0.byte },
          k.1,
        ) lt,
      ))
  | inr rest ↦ elim rest [
    | inl gt ↦
        absurd (omega (
          arith,
          same f.0,
          byte_first f other,
          k.0.some,
          byte_below e.0 (e ∷ memory) f.0 (
            record { above = omega arith; below = h.0.below; some = h.0.some; byte = h.0.byte },
            h.1,
          ) gt,
        ))
    | inr q ↦
        heads q (same_bytes (e.0 + 1) memory other h.1
        (subst (λ n. IsFrom (n + 1) other) (sym q) k.1) (tails q))
  ]
]
  where
    tails : e.0 ≡ f.0 → (c : ℕ) → byte memory c ≡ byte other c
    tails q c = elim (cases_Bool (nat_lt e.0 c)) [
      | inl lt ↦
          let first : (e.0 == c) ≡ false =
          ne_eqb e.0 c (λ r. absurd (omega (arith, r, ltb-true e.0 c lt))) in
          let second : (f.0 == c) ≡ false =
          ne_eqb f.0 c (λ r. absurd (omega (arith, q, r, ltb-true e.0 c lt))) in
          rw (first, second) at (same c)
      | inr ge ↦
          byte_below (e.0 + 1) memory c h.1 (omega (arith, ltb-false e.0 c ge))
          ∙ sym (byte_below (f.0 + 1) other c k.1 (omega (arith, q, ltb-false e.0 c ge)))
    ]

    values : e.0 ≡ f.0 → e.1 ≡ f.1
    values q = sym (byte_first e memory) ∙ same e.0 ∙ ap (byte (f ∷ other)) q ∙ byte_first f other

    pair : e.0 ≡ f.0 → e ≡ f
    pair q = ap (λ (x : ℕ). (x, e.1)) q ∙ ap (λ (y : ℕ). (f.0, y)) (values q)

    heads : e.0 ≡ f.0 → memory ≡ other → e ∷ memory ≡ f ∷ other
    heads q rest = ap (λ (x : ℕ × ℕ). x ∷ memory) (pair q) ∙ ap (λ (ys : List (ℕ × ℕ)). f ∷ ys) rest

pub byte_small : (low : ℕ) (memory : Memory) (c : ℕ) → IsFrom low memory → byte memory c < 2 ^ 8
byte_small low [] c h = omega arith
byte_small low (e ∷ memory) c h = elim (cases_Bool (e.0 == c)) [
  | inl same ↦ rw same h.0.byte
  | inr apart ↦ rw apart (byte_small (e.0 + 1) memory c h.1)
]

-- writing back the old byte gives the old memory
pub put_back : (memory : Memory) (a b : ℕ) → IsMemory memory → a < 2 ^ 32 → b < 2 ^ 8
    → put_byte (put_byte memory a b) a (byte memory a) ≡ memory
put_back memory a b h below small =
    let kept : IsMemory (put_byte memory a b) = put_from 0 memory a b h (omega arith) below small in
    let old : byte memory a < 2 ^ 8 = byte_small 0 memory a h in
    same_bytes 0 _ memory
    (put_from 0 (put_byte memory a b) a (byte memory a) kept (omega arith) below old) h
    (λ c. byte_put 0 (put_byte memory a b) a (byte memory a) c kept ∙ each c)
  where
    each : (c : ℕ) → (if a == c then byte memory a else byte (put_byte memory a b) c)
        ≡ byte memory c
    each c = elim (cases_Bool (a == c)) [
      | inl same ↦ rw same (ap (byte memory) (eqb-true a c same))
      | inr apart ↦ rw (apart, byte_put 0 memory a b c h, apart) refl
    ]

-- writes at two addresses commute
pub put_other : (memory : Memory) (a b x y : ℕ) → IsMemory memory → a < 2 ^ 32 → b < 2 ^ 32
    → x < 2 ^ 8 → y < 2 ^ 8 → (a ≡ b → ⊥)
    → put_byte (put_byte memory a x) b y ≡ put_byte (put_byte memory b y) a x
put_other memory a b x y h ha hb hx hy apart =
    let first : IsMemory (put_byte memory a x) = put_from 0 memory a x h (omega arith) ha hx in
    let second : IsMemory (put_byte memory b y) = put_from 0 memory b y h (omega arith) hb hy in
    same_bytes 0 _ _ (put_from 0 _ b y first (omega arith) hb hy)
    (put_from 0 _ a x second (omega arith) ha hx)
    (λ c. byte_put 0 _ b y c first ∙ each c ∙ sym (byte_put 0 _ a x c second))
  where
    each : (c : ℕ) → (if b == c then y else byte (put_byte memory a x) c)
        ≡ (if a == c then x else byte (put_byte memory b y) c)
    each c = rw (byte_put 0 memory a x c h, byte_put 0 memory b y c h) (elim (cases_Bool (b == c)) [
      | inl same ↦ let other : (a == c) ≡ false =
          ne_eqb a c (λ q. apart (q ∙ sym (eqb-true b c same))) in rw (same, other) refl
      | inr differs ↦ rw differs refl
    ])

-- a write at a commutes with a store of n bytes from an address k past a
pub put_beside : (n : ℕ) (memory : Memory) (a k b value : ℕ) → IsMemory memory → a < 2 ^ 32
    → b < 2 ^ 8 → 1 ≤ k → k + n ≤ 2 ^ 32
    → put_byte (put_bytes n memory ((a + k) % 2 ^ 32) value) a b
    ≡ put_bytes n (put_byte memory a b) ((a + k) % 2 ^ 32) value
put_beside zero memory a k b value h ha hb low high = refl
put_beside (suc n) memory a k b value h ha hb low high =
    let at : ℕ = (a + k) % 2 ^ 32 in
    let first : IsMemory (put_byte memory at (value % 2 ^ 8)) =
    put_from 0 memory at (value % 2 ^ 8) h (omega arith) (omega arith) (omega arith) in
    let next : next_byte at ≡ (a + (k + 1)) % 2 ^ 32 = omega arith in
    let rest = put_beside n (put_byte memory at (value % 2 ^ 8)) a (k + 1) b (value / 2 ^ 8) first
    ha hb (omega arith) (omega arith) in
    let apart : at ≡ a → ⊥ = λ q. absurd (omega (arith, q)) in
    rw next (rest ∙ ap (λ m. put_bytes n m ((a + (k + 1)) % 2 ^ 32) (value / 2 ^ 8))
    (put_other memory at a (value % 2 ^ 8) b h (omega arith) ha (omega arith) hb apart))

pub put_bytes_from : (n : ℕ) (memory : Memory) (a value : ℕ) → IsMemory memory → a < 2 ^ 32
    → IsMemory (put_bytes n memory a value)
put_bytes_from zero memory a value h ha = h
put_bytes_from (suc n) memory a value h ha =
    put_bytes_from n (put_byte memory a (value % 2 ^ 8)) (next_byte a) (value / 2 ^ 8)
    (put_from 0 memory a (value % 2 ^ 8) h (omega arith) ha (omega arith)) (omega arith)

pub put_four : (memory : Memory) (a value : ℕ)
    → put_bytes 4 memory a value ≡ put_whole memory a value
put_four memory a value =
    let third : value / 2 ^ 8 / 2 ^ 8 % 2 ^ 8 ≡ value / 2 ^ 16 % 2 ^ 8 = omega arith in
    let fourth : value / 2 ^ 8 / 2 ^ 8 / 2 ^ 8 % 2 ^ 8 ≡ value / 2 ^ 16 / 2 ^ 8 % 2 ^ 8 =
    omega arith in
    let m : Memory = put_half memory a value in
    let b : ℕ = next_byte (next_byte a) in
    ap (λ x. put_byte (put_byte m b x) (next_byte b) (value / 2 ^ 8 / 2 ^ 8 / 2 ^ 8 % 2 ^ 8)) third
    ∙ ap (λ x. put_byte (put_byte m b (value / 2 ^ 16 % 2 ^ 8)) (next_byte b) x) fourth

pub byte_after_clear : (memory : Memory) (a length c : ℕ)
    → byte (clear_bytes memory a length) c ≡ (if is_within a length c then 0 else byte memory c)
byte_after_clear [] a length c = elim (cases_Bool (is_within a length c)) [
  | inl e ↦ rw e refl
  | inr e ↦ rw e refl
]
byte_after_clear (e ∷ memory) a length c = elim (cases_Bool (is_within a length e.0)) [
  | inl gone ↦ rw gone (byte_after_clear memory a length c ∙ dropped gone)
  | inr stays ↦ rw (stays, byte_after_clear memory a length c) (kept stays)
]
  where
    dropped : is_within a length e.0 ≡ true
        → (if is_within a length c then 0 else byte memory c)
        ≡ (if is_within a length c then 0 else (if e.0 == c then e.1 else byte memory c))
    dropped gone = elim (cases_Bool (is_within a length c)) [
      | inl w ↦ rw w refl
      | inr w ↦ elim (cases_Bool (e.0 == c)) [
        | inl same ↦
            absurd (not_both (sym gone ∙ ap (is_within a length) (eqb-true e.0 c same) ∙ w))
        | inr apart ↦ rw (w, apart) refl
      ]
    ]

    kept : is_within a length e.0 ≡ false
        → (if e.0 == c then e.1 else (if is_within a length c then 0 else byte memory c))
        ≡ (if is_within a length c then 0 else (if e.0 == c then e.1 else byte memory c))
    kept stays = elim (cases_Bool (e.0 == c)) [
      | inl same ↦ let w : is_within a length c ≡ false =
          ap (is_within a length) (sym (eqb-true e.0 c same)) ∙ stays in rw (same, w) refl
      | inr apart ↦ rw apart refl
    ]

pub clear_from : (low : ℕ) (memory : Memory) (a length : ℕ) → IsFrom low memory
    → IsFrom low (clear_bytes memory a length)
clear_from low [] a length h = tt
clear_from low (e ∷ memory) a length h = elim (cases_Bool (is_within a length e.0)) [
  | inl gone ↦
      rw gone (from_lower low (e.0 + 1) _ (omega (arith, h.0.above))
      (clear_from (e.0 + 1) memory a length h.1))
  | inr stays ↦ rw stays (h.0, clear_from (e.0 + 1) memory a length h.1)
]

-- a byte that becomes 0 may be written after the following bytes
pub store_zero : (count : ℕ) (memory : Memory) (a value : ℕ) → IsMemory memory → a < 2 ^ 32
    → count ≤ 4 → (count ≡ 0 → ⊥) → value % 2 ^ 8 ≡ 0
    → put_byte (put_bytes (count - 1) memory (next_byte a) (value / 2 ^ 8)) a 0
    ≡ put_bytes count memory a value
store_zero zero memory a value h ha few some z = absurd (some refl)
store_zero (suc n) memory a value h ha few some z =
    let m : suc n - 1 ≡ n = omega arith in
    rw (
      m,
      z,
    ) (put_beside n memory a 1 0 (value / 2 ^ 8) h ha (omega arith) (omega arith) (omega arith))

-- writing back the old byte, which can't run out of memory
pub put_undone : {A E : Type 0} (r : Result A E) (memory after last : Memory) (a low before : ℕ)
    → IsMemory memory → a < 2 ^ 32 → low < 2 ^ 8 → 1 ≤ low → after ≡ put_byte memory a low
    → before ≡ byte memory a → OnOk r (last ≡ put_byte after a before)
    → OnErr r ((byte after a ≡ 0) × (1 ≤ before)) → last ≡ memory
put_undone (Ok x) memory after last a low before h ha small some was old ok stored =
    ok ∙ ap (λ m. put_byte m a before) was ∙ ap (put_byte (put_byte memory a low) a) old
    ∙ put_back memory a low h ha small
put_undone (Err e) memory after last a low before h ha small some was old ok stored =
    let there : byte after a ≡ low = ap (λ m. byte m a) was
    ∙ byte_put 0 memory a low a h ∙ chosen in
    absurd (omega (arith, there, stored.0))
  where
    chosen : (if a == a then low else byte memory a) ≡ low
    chosen = rw (equal a) refl
