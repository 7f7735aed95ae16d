-- In which run a byte is.
use Rattle.std.proofs.Common.{◌≡◌, ℕ, ◌+◌, ◌-◌, ◌*◌, ◌%◌, ◌<◌, ◌≤◌, eq-eqb, List, [], ◌∷◌}
use Rattle.std.proofs.Common.{length, drop}
use Rattle.std.proofs.Common.{get_or, Option, Some, None, refl, ap, sym, subst, ◌∙◌, inl, inr}
use Rattle.std.proofs.Common.{⊎_elim, arith, suc, zero, Bool, true, false, ◌&&◌, ◌==◌}
use Rattle.std.specs.Prelude.{AllPairs, not, slice_get}
use Rattle.std.specs.List.{AllWithin}
use Rattle.std.specs.List.Sorted.{IsNonDecreasingBy}
use Rattle.std.proofs.Math.Nat.{eq-or-lt_of_le}
use Rattle.std.proofs.lemmas.Bool.{le-leb, ne_eqb, cases_lt}
use Rattle.std.proofs.lemmas.List.{get_or-drop, length-drop}
use Rattle.std.proofs.lemmas.Option.{none-some, slice_get_past, slice_get_within}
use Rattle.std.proofs.lemmas.Option.{slice_get-get_or}
use Rattle.crpd_base.specs.declared.data.Image.{Image}
use Rattle.code_map.specs.declared.runs.Run.{Run}
use Rattle.code_map.specs.Words.{byte_from, little_endian, word_by, end}
use Rattle.code_map.specs.Inner.Runs.{run_byte, run_bytes, runs_byte, run_end, IsRunBefore}
use Rattle.code_map.specs.Inner.Runs.{AreBytesFrom}
use Rattle.code_map.proofs.First.{found_none, found_only}

abbrev pub blank : Run
blank = record { start = 0; file = 0; segment = 0 }

-- disjoint runs increase
pub ascending : (is : List Image) (rs : List Run) → AllPairs (IsRunBefore is) rs
    → IsNonDecreasingBy (λ (r : Run). r.start) rs
ascending is rs apart i j d le lt = ⊎_elim
    (λ (e : i ≡ j). subst (λ k. (get_or rs i d).start ≤ (get_or rs k d).start) e (omega arith))
    (λ (e : i < j). let h : run_end is (get_or rs i d) ≤ (get_or rs j d).start =
    apart i j d e lt in omega arith)
    (eq-or-lt_of_le le)

-- ---- the places of bytes from a start on

pub past_none : (start : ℕ) (bytes : List ℕ) (a : ℕ) → start + length bytes ≤ a
    → byte_from start bytes a ≡ None
past_none start bytes a h =
    let le : start ≤ a = omega arith in
    rw (le-leb start a le) (slice_get_past bytes (a - start) (omega arith))

pub before_none : (start : ℕ) (bytes : List ℕ) (a : ℕ) → a < start → byte_from start bytes a ≡ None
before_none start bytes a h = grind arith

pub byte_there : (start : ℕ) (bytes : List ℕ) (a : ℕ) → start ≤ a → a < start + length bytes
    → byte_from start bytes a ≡ Some (get_or bytes (a - start) 0)
byte_there start bytes a from to =
    rw (le-leb start a from) (slice_get-get_or bytes (a - start) 0 (omega arith))

pub some_within : (start : ℕ) (bytes : List ℕ) (a x : ℕ) → byte_from start bytes a ≡ Some x
    → (start ≤ a) × (a < start + length bytes)
some_within start bytes a x e = ⊎_elim
    (λ (le : start ≤ a). (
      le,
      omega (arith, slice_get_within bytes (a - start) x (rw (le-leb start a le) at e)),
    ))
    (λ (lt : a < start). absurd (none-some x (sym (before_none start bytes a lt) ∙ e)))
    (⊎_elim (λ (lt : a < start). inr lt) (λ (le : start ≤ a). inl le) (cases_lt a start))

pub slice_get_drop : (n : ℕ) (xs : List ℕ) (i : ℕ)
    → slice_get (drop n xs) i ≡ slice_get xs (n + i)
slice_get_drop n xs i = ⊎_elim
    (λ (lt : n + i < length xs).
    let within : i < length (drop n xs) = omega (arith, length-drop n xs) in
    slice_get-get_or (drop n xs) i 0 within
    ∙ (ap Some (get_or-drop n xs i 0) ∙ sym (slice_get-get_or xs (n + i) 0 lt)))
    (λ (le : length xs ≤ n + i).
    let past : length (drop n xs) ≤ i = omega (arith, length-drop n xs) in
    slice_get_past (drop n xs) i past ∙ sym (slice_get_past xs (n + i) le))
    (cases_lt (n + i) (length xs))

-- the bytes from a later start on
pub later_bytes : (start n : ℕ) (bytes : List ℕ) (a : ℕ) → start + n ≤ a
    → byte_from (start + n) (drop n bytes) a ≡ byte_from start bytes a
later_bytes start n bytes a le =
    let from : start ≤ a = omega arith in
    let at : n + (a - (start + n)) ≡ a - start = omega arith in
    rw (le-leb (start + n) a le, le-leb start a from)
    (slice_get_drop n bytes (a - (start + n)) ∙ ap (slice_get bytes) at)

-- ---- the run up to an address has its bytes

pub get_or_same : (rs : List Run) (n : ℕ) (c d : Run) → n < length rs
    → get_or rs n c ≡ get_or rs n d
get_or_same [] n c d lt = absurd (omega arith)
get_or_same (r ∷ rs) zero c d lt = refl
get_or_same (r ∷ rs) (suc n) c d lt = get_or_same rs n c d (omega arith)

-- the run at a place has the same bytes as all runs, from its start up to where the next run starts
pub run_has : (is : List Image) (rs : List Run) (n x : ℕ) → AllPairs (IsRunBefore is) rs
    → n < length rs → (get_or rs n blank).start ≤ x
    → ((k : ℕ) (d : Run) → n < k → k < length rs → x < (get_or rs k d).start)
    → runs_byte is rs x ≡ run_byte is (get_or rs n blank) x
run_has is rs n x apart lt from next =
    found_only (λ r. run_byte is r x) rs n blank lt (λ k d in' ne. ⊎_elim
    (λ (less : k < n). let h : run_end is (get_or rs k d) ≤ (get_or rs n d).start =
    apart k n d less lt in
    let same : (get_or rs n d).start ≤ x =
    subst (λ (r : Run). r.start ≤ x) (get_or_same rs n blank d lt) from in
    past_none (get_or rs k d).start (run_bytes is (get_or rs k d)) x (omega arith))
    (λ (more : n ≤ k). let gt : n < k = other n k more ne in
    before_none (get_or rs k d).start (run_bytes is (get_or rs k d)) x (next k d gt in'))
    (cases_lt k n))
  where
    other : (n k : ℕ) → n ≤ k → (k ≡ n → ⊥) → n < k
    other n k le ne =
        ⊎_elim (λ (e : n ≡ k). absurd (ne (sym e))) (λ (lt : n < k). lt) (eq-or-lt_of_le le)

-- no byte if no run starts at or below the address
pub no_byte : (is : List Image) (rs : List Run) (a : ℕ)
    → AllWithin (λ r. a < r.start) rs 0 (length rs) → runs_byte is rs a ≡ None
no_byte is rs a after =
    found_none (λ r. run_byte is r a) rs
    (λ k d lt. before_none (get_or rs k d).start (run_bytes is (get_or rs k d)) a
    (after k d (omega arith) lt))

pub none_from : (is : List Image) (rs : List Run) (a : ℕ)
    → AllWithin (λ r. a < r.start) rs 0 (length rs) → (bytes : List ℕ) → length bytes ≡ 0
    → AreBytesFrom is rs a bytes
none_from is rs a after bytes empty = record {
  each = λ k lt. absurd (omega arith);
  none = λ e. no_byte is rs a after;
}

-- the bytes at an address are those of the last run that starts at or below it
pub bytes_of_run : (is : List Image) (rs : List Run) (n a : ℕ) → AllPairs (IsRunBefore is) rs
    → n < length rs → AllWithin (λ r. r.start ≤ a) rs 0 (n + 1)
    → AllWithin (λ r. a < r.start) rs (n + 1) (length rs)
    → AreBytesFrom is rs a
    (drop (a - (get_or rs n blank).start) (run_bytes is (get_or rs n blank)))
bytes_of_run is rs n a apart lt before after =
    let r : Run = get_or rs n blank in
    let from : (get_or rs n blank).start ≤ a = before n blank (omega arith) (omega arith) in
    let count : length (drop (a - r.start) (run_bytes is r))
    ≡ length (run_bytes is r) - (a - r.start) =
    length-drop (a - r.start) (run_bytes is r) in
    record {
      each = λ k small.
          let inside : a + k < run_end is (get_or rs n blank) = omega (arith, count, small, from) in
          let at : a - r.start + k ≡ a + k - r.start = omega (arith, from) in
          run_has is rs n (a + k) apart lt (omega (arith, from))
          (λ j d more in'. let h : run_end is (get_or rs n d) ≤ (get_or rs j d).start =
          apart n j d more in' in
          omega (arith, inside, ap (run_end is) (get_or_same rs n blank d lt)))
          ∙ (rw (le-leb r.start (a + k) (omega (arith, from))) refl
          ∙ (ap (slice_get (run_bytes is r)) (sym at)
          ∙ sym (slice_get_drop (a - r.start) (run_bytes is r) k)));
      none = λ e.
          run_has is rs n a apart lt from (λ k d more in'. after k d (omega arith) in')
          ∙ past_none r.start (run_bytes is r) a (omega (arith, count, e, from));
    }

-- ---- words

-- the word at an address that may have one
pub word_taken : (byte : ℕ → Option ℕ) (a : ℕ) (b : Bool) → b ≡ (a % 4 == 0 && not (a == end))
    → b ≡ true
    → word_by byte a ≡ little_endian (byte a) (byte (a + 1)) (byte (a + 2)) (byte (a + 3))
word_taken byte a b is e = rw (sym is ∙ e) refl

pub word_refused : (byte : ℕ → Option ℕ) (a : ℕ) (b : Bool)
    → b ≡ (a % 4 == 0 && not (a == end)) → b ≡ false → None ≡ word_by byte a
word_refused byte a b is e = rw (sym is ∙ e) refl

-- the word at a multiple of 4 that is not the return address of jobs
pub word_there : (byte : ℕ → Option ℕ) (a : ℕ) → a % 4 ≡ 0 → (a ≡ end → ⊥)
    → word_by byte a ≡ little_endian (byte a) (byte (a + 1)) (byte (a + 2)) (byte (a + 3))
word_there byte a even ne = rw (eq-eqb (a % 4) 0 even, ne_eqb a end ne) refl

-- the number of the first four bytes
pub number_from : (is : List Image) (rs : List Run) (a : ℕ) (bytes : List ℕ)
    → AreBytesFrom is rs a bytes → 4 ≤ length bytes
    → little_endian (runs_byte is rs a) (runs_byte is rs (a + 1)) (runs_byte is rs (a + 2))
    (runs_byte is rs (a + 3))
    ≡ Some (get_or bytes 0 0 + 256 * get_or bytes 1 0 + 65536 * get_or bytes 2 0
    + 16777216 * get_or bytes 3 0)
number_from is rs a bytes from enough =
    let one : runs_byte is rs a ≡ Some (get_or bytes 0 0) =
    ap (runs_byte is rs) zero_more
    ∙ (from.each 0 (omega arith) ∙ slice_get-get_or bytes 0 0 (omega arith)) in
    let two : runs_byte is rs (a + 1) ≡ Some (get_or bytes 1 0) =
    from.each 1 (omega arith) ∙ slice_get-get_or bytes 1 0 (omega arith) in
    let three : runs_byte is rs (a + 2) ≡ Some (get_or bytes 2 0) =
    from.each 2 (omega arith) ∙ slice_get-get_or bytes 2 0 (omega arith) in
    let four : runs_byte is rs (a + 3) ≡ Some (get_or bytes 3 0) =
    from.each 3 (omega arith) ∙ slice_get-get_or bytes 3 0 (omega arith) in
    rw (one, two, three, four) refl
  where
    zero_more : a ≡ a + 0
    zero_more = omega arith
