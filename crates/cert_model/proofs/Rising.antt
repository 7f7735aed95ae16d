-- A list of numbers and the words of its set; and a loop that inserts them into the set one by one.
use Rattle.std.proofs.Common.{◌≡◌, ℕ, zero, suc, ◌+◌, ◌*◌, ◌/◌, ◌%◌, ◌^◌, ◌<◌, Bool, true, false}
use Rattle.std.proofs.Common.{List, [], ◌∷◌, ◌++◌, length, get_or, drop, Option, Some, None}
use Rattle.std.proofs.Common.{option_map, refl, ap, sym, subst, ◌∙◌, arith, append_assoc}
use Rattle.std.specs.Prelude.{if◌then◌else◌, ◌==◌, ◌||◌, option_and_then}
use Rattle.std.specs.Int.{bit_at}
use Rattle.std.proofs.lemmas.Bool.Decides.{nat_tests}
use Rattle.std.proofs.lemmas.List.{drop_more, append-nil}
use Rattle.std.proofs.lemmas.List.Folds.{list_any-append}
use Rattle.std.proofs.lemmas.Nat.Bits.{bit_at_lowest, bit_at-suc}
use Rattle.crpd_base.proofs.Bools.{or_false}
use native.Mathlib.Numerals.{unary_clauses}
use Rattle.crpd_base.specs.Sets.{member, AreWords}
use Rattle.crpd_base.proofs.Bits.{same_words}
use Rattle.serde_json.specs.Data.{Data, Items, no_items, item}
use Rattle.serde_json.specs.View.{view, items_view}
use Rattle.serde_json.specs.declared.value.Value.{Value}
use Rattle.cert_model.specs.Kinds.{below, rising, is_in, word_of, words_from, words_of}

abbrev pub flag : Bool → ℕ
flag b = if b then 1 else 0

flag-lt : (b : Bool) → flag b < 2
flag-lt true = omega arith
flag-lt false = omega arith

lowest : (f y : ℕ) → f < 2 → (f + 2 * y) % 2 ≡ f
lowest f y h = omega arith

half : (f y : ℕ) → f < 2 → (f + 2 * y) / 2 ≡ y
half f y h = omega arith

word_bit : (ns : List ℕ) (first bits k : ℕ) → k < bits
    → bit_at (word_of ns first bits) k ≡ flag (is_in (first + k) ns)
unfolding word_of
word_bit ns first zero k h = absurd (omega arith)
word_bit ns first (suc bits) zero h =
    let e : first ≡ first + 0 = omega arith in
    bit_at_lowest _ ∙ lowest (flag (is_in first ns)) (word_of ns (first + 1) bits)
    (flag-lt (is_in first ns)) ∙ ap (λ x. flag (is_in x ns)) e
word_bit ns first (suc bits) (suc k) h =
    let e : first + 1 + k ≡ first + suc k = omega arith in
    bit_at-suc _ k ∙ ap (λ x. bit_at x k)
    (half (flag (is_in first ns)) (word_of ns (first + 1) bits) (flag-lt (is_in first ns)))
    ∙ word_bit ns (first + 1) bits k (omega arith) ∙ ap (λ x. flag (is_in x ns)) e

two_pow : (k : ℕ) → 2 ^ suc k ≡ 2 * 2 ^ k
two_pow k = simp unary_clauses (omega arith)

doubled : (f y p : ℕ) → f < 2 → y < p → f + 2 * y < 2 * p
doubled f y p h k = omega arith

word_small : (ns : List ℕ) (first bits : ℕ) → word_of ns first bits < 2 ^ bits
unfolding word_of
word_small ns first zero = omega arith
word_small ns first (suc bits) =
    rw (two_pow bits)
    (doubled (flag (is_in first ns)) (word_of ns (first + 1) bits) (2 ^ bits)
    (flag-lt (is_in first ns)) (word_small ns (first + 1) bits))

words_at : (ns : List ℕ) (first words i : ℕ) → i < words
    → get_or (words_from ns first words) i 0 ≡ word_of ns (first + 64 * i) 64
unfolding words_from
words_at ns first zero i h = absurd (omega arith)
words_at ns first (suc words) zero h =
    let e : first ≡ first + 64 * 0 = omega arith in
    ap (λ x. word_of ns x 64) e
words_at ns first (suc words) (suc i) h =
    let e : first + 64 + 64 * i ≡ first + 64 * suc i = omega arith in
    words_at ns (first + 64) words i (omega arith) ∙ ap (λ x. word_of ns x 64) e

length_words : (ns : List ℕ) (first words : ℕ) → length (words_from ns first words) ≡ words
unfolding words_from
length_words ns first zero = refl
length_words ns first (suc words) = ap suc (length_words ns (first + 64) words)

pub words_are : (ns : List ℕ) → AreWords 8 (words_of ns)
unfolding words_of
words_are ns = record {
  count = length_words ns 0 8;
  each = λ k h.
      subst (λ (x : ℕ). x < 2 ^ 64) (sym (words_at ns 0 8 k h)) (word_small ns (0 + 64 * k) 64);
}

pub words_member : (ns : List ℕ) (t : ℕ) → t < 512 → member (words_of ns) t ≡ flag (is_in t ns)
unfolding words_of
words_member ns t h =
    let e : 0 + 64 * (t / 64) + t % 64 ≡ t = omega arith in
    ap (λ x. bit_at x (t % 64)) (words_at ns 0 8 (t / 64) (omega arith))
    ∙ word_bit ns (0 + 64 * (t / 64)) 64 (t % 64) (omega arith) ∙ ap (λ x. flag (is_in x ns)) e

-- ---- the loop

-- the values from a place on
pub items_from : (vs : List Value) (i : ℕ) (v : Value) → i < length vs → v ≡ get_or vs i v
    → items_view (drop i vs) ≡ item (view v) (items_view (drop (i + 1) vs))
items_from vs i v lt is = ap items_view (drop_more vs i v lt) ∙ rw (← is)

-- some numbers are in a set, and the rest is still to be read
pub record Rose (limit low : ℕ) (set : List ℕ) (rest : Items) (all : Option (List ℕ)) : Type 0 where
  pub front : List ℕ
  pub numbers : (t : ℕ) → member set t ≡ flag (is_in t front)
  pub read : option_map (λ ns. front ++ ns) (rising low limit rest) ≡ all

pub same_option : {A : Type 0} (o : Option (List A)) → option_map (λ xs. [] ++ xs) o ≡ o
same_option None = refl
same_option (Some xs) = refl

pub rose_none : (limit : ℕ) (set : List ℕ) (items : Items) → ((t : ℕ) → member set t ≡ 0)
    → Rose limit 0 set items (rising 0 limit items)
rose_none limit set items none = record {
  front = [];
  numbers = none;
  read = same_option (rising 0 limit items);
}

pub front_moved : {A : Type 0} (front : List A) (x : A) (o : Option (List A))
    → option_map (λ xs. front ++ xs) (option_map (λ xs. x ∷ xs) o)
    ≡ option_map (λ xs. (front ++ x ∷ []) ++ xs) o
front_moved front x None = refl
front_moved front x (Some xs) = ap (λ l. Some l) (sym (append_assoc front (x ∷ []) xs))

flag_or : (a b : Bool) → flag (a || b) ≡ (if b then 1 else flag a)
flag_or true true = refl
flag_or true false = refl
flag_or false true = refl
flag_or false false = refl

equal_turned : (t n : ℕ) → (t == n) ≡ (n == t)
equal_turned t n = grind (arith, nat_tests)

pub in_more : (front : List ℕ) (n t : ℕ)
    → flag (is_in t (front ++ n ∷ [])) ≡ (if t == n then 1 else flag (is_in t front))
in_more front n t =
    ap flag (list_any-append (λ x. x == t) front (n ∷ []))
    ∙ ap (λ b. flag (is_in t front || b)) (or_false (n == t)) ∙ flag_or (is_in t front) (n == t)
    ∙ ap (λ (b : Bool). if b then 1 else flag (is_in t front)) (sym (equal_turned t n))

pub rose_more : (limit low n : ℕ) (set more : List ℕ) (rest : Items) (d : Data) (ds : Items)
    (all : Option (List ℕ)) → rest ≡ item d ds → Rose limit low set rest all
    → Some n ≡ below low limit d
    → ((t : ℕ) → member more t ≡ (if t == n then 1 else member set t))
    → Rose limit (n + 1) more ds all
rose_more limit low n set more rest d ds all first rose is inserted = record {
  front = rose.front ++ n ∷ [];
  numbers = λ t.
      inserted t ∙ ap (λ (x : ℕ). if t == n then 1 else x) (rose.numbers t)
      ∙ sym (in_more rose.front n t);
  read =
      let read : option_map (λ ns. rose.front ++ ns) (rising low limit (item d ds)) ≡ all =
      subst (λ (r : Items). option_map (λ ns. rose.front ++ ns) (rising low limit r) ≡ all) first
      rose.read in
      sym (front_moved rose.front n (rising (n + 1) limit ds))
      ∙ ap (λ (o : Option ℕ). option_map (λ ns. rose.front ++ ns)
      (option_and_then (λ m. option_map (λ ns. m ∷ ns) (rising (m + 1) limit ds)) o)) is ∙ read;
}

pub rose_fault : (limit low : ℕ) (set : List ℕ) (rest : Items) (d : Data) (ds : Items)
    (all : Option (List ℕ)) → rest ≡ item d ds → Rose limit low set rest all
    → None ≡ below low limit d → all ≡ None
rose_fault limit low set rest d ds all first rose is =
    let read : option_map (λ ns. rose.front ++ ns) (rising low limit (item d ds)) ≡ all =
    subst (λ (r : Items). option_map (λ ns. rose.front ++ ns) (rising low limit r) ≡ all) first
    rose.read in
    sym (ap (λ (o : Option ℕ).
    option_map (λ ns. rose.front ++ ns)
    (option_and_then (λ m. option_map (λ ns. m ∷ ns) (rising (m + 1) limit ds)) o)) is ∙ read)

pub rose_all : (limit low : ℕ) (set : List ℕ) (rest : Items) (all : Option (List ℕ))
    → rest ≡ no_items → Rose limit low set rest all → AreWords 8 set
    → Some set ≡ option_map words_of all
rose_all limit low set rest all last rose words =
    let read : option_map (λ ns. rose.front ++ ns) (rising low limit no_items) ≡ all =
    subst (λ (r : Items). option_map (λ ns. rose.front ++ ns) (rising low limit r) ≡ all) last
    rose.read in
    let found : Some rose.front ≡ all = ap (λ l. Some l) (sym (append-nil rose.front)) ∙ read in
    let same : set ≡ words_of rose.front =
    same_words set (words_of rose.front) 8 words (words_are rose.front)
    (λ t h. rose.numbers t ∙ sym (words_member rose.front t h)) in
    ap (λ l. Some l) same ∙ ap (option_map words_of) found
