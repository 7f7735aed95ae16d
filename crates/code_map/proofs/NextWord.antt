-- The lowest address from one on at which runs have a word.
use Rattle.std.proofs.Common.{◌≡◌, ℕ, ◌+◌, ◌-◌, ◌%◌, ◌^◌, ◌<◌, ◌≤◌, Bool, true, false, List, [], ◌∷◌}
use Rattle.std.proofs.Common.{length, get_or, Option, Some, None, refl, ap, sym, subst, ◌∙◌, ⊎_elim}
use Rattle.std.proofs.Common.{arith, AllPairs, All, is_some, max, slice_get, not}
use Rattle.std.proofs.Math.Nat.{eq-or-lt_of_le}
use Rattle.std.specs.List.{AllWithin}
use Rattle.std.proofs.lemmas.Bool.{false_from_ne_true, cases_lt}
use Rattle.std.proofs.lemmas.Option.{none-some, get_or_from_slice_get}
use Rattle.std.proofs.lemmas.List.Folds.{list_any_at}
use Rattle.crpd_base.specs.Images.{IsImage}
use Rattle.crpd_base.specs.declared.data.Image.{Image}
use Rattle.code_map.specs.declared.files.Files.TheInside.{Inside}
use Rattle.code_map.specs.declared.runs.Run.{Run}
use Rattle.code_map.specs.Inner.StoredFiles.{AreStoredFiles}
use Rattle.code_map.specs.NextPassing.{IsNextPassing, IsNextOf}
use Rattle.code_map.specs.Inner.NextPassing.{IsNextAddress, IsNextFrom, HasNoNext}
use Rattle.code_map.specs.Words.{image_byte, little_endian, owns, word_by, end}
use Rattle.code_map.specs.Inner.Runs.{run_byte, run_bytes, runs_byte, have_word, run_end}
use Rattle.code_map.specs.Inner.Runs.{IsRunBefore, IsByteIndex, IsOwnIndex}
use Rattle.code_map.proofs.First.{found_at, found_some}
use Rattle.code_map.proofs.Found.{ascending, blank, byte_there, get_or_same, some_within, word_there}
use Rattle.code_map.proofs.Has.{equals_some, equals}
use Rattle.code_map.proofs.Indexed.{byte_below}
use Rattle.code_map.proofs.KeptWords.{word_same, word_where}

some_of : (o : Option ℕ) → is_some o ≡ true → (w : ℕ) × (o ≡ Some w)
some_of None e = absurd cc
some_of (Some w) e = (w, refl)

-- the first of four bytes that form a number
little_first : (a b c d : Option ℕ) (n : ℕ) → little_endian a b c d ≡ Some n
    → (w : ℕ) × (a ≡ Some w)
little_first None b c d n e = absurd (none-some n e)
little_first (Some w) b c d n e = (w, refl)

true_false : (b : Bool) → b ≡ true → b ≡ false → ⊥
true_false true e f = cc
true_false false e f = cc

-- where a word is: a multiple of 4, not the return address of jobs, and its first byte
word_needs : (byte : ℕ → Option ℕ) (a : ℕ) → is_some (word_by byte a) ≡ true
    → ((a % 4) ≡ 0) × (a ≡ end → ⊥) × (w : ℕ) × (byte a ≡ Some w)
word_needs byte a h =
    let w = some_of (word_by byte a) h in
    let t = word_where byte a w.0 w.1 in
    let first = little_first (byte a) (byte (a + 1)) (byte (a + 2)) (byte (a + 3)) w.0 t.2 in
    (t.0, t.1, first.0, first.1)

word_of_bytes : (byte : ℕ → Option ℕ) (a : ℕ) → (a % 4) ≡ 0 → (a ≡ end → ⊥)
    → ((k : ℕ) → k < 4 → (w : ℕ) × (byte (a + k) ≡ Some w)) → is_some (word_by byte a) ≡ true
word_of_bytes byte a even ne bytes =
    let zero : a + 0 ≡ a = omega arith in
    let one = bytes 0 (omega arith) in
    let first : byte a ≡ Some one.0 = ap byte (sym zero) ∙ one.1 in
    let two = bytes 1 (omega arith) in
    let three = bytes 2 (omega arith) in
    let four = bytes 3 (omega arith) in
    ap is_some (word_there byte a even ne) ∙ rw (first, two.1, three.1, four.1) refl

-- ---- the runs

module _ (is : List Image) (rs : List Run) (apart : AllPairs (IsRunBefore is) rs) where
  -- a byte of a run is a byte of all
  byte_in_run : (k a : ℕ) → k < length rs → (get_or rs k blank).start ≤ a
      → a < run_end is (get_or rs k blank) → (w : ℕ) × (runs_byte is rs a ≡ Some w)
  byte_in_run k a lt from to =
      let r : Run = get_or rs k blank in
      found_at (λ r. run_byte is r a) rs k blank _ lt
      (byte_there r.start (run_bytes is r) a from to)

  -- the run that has the first byte of a word
  word_in_run : (a : ℕ) → have_word is rs a ≡ true
      → (k : ℕ) × (k < length rs) × (w : ℕ) × ((d : Run) → run_byte is (get_or rs k d) a ≡ Some w)
  word_in_run a e =
      let n = word_needs (runs_byte is rs) a e in
      let found = found_some (λ r. run_byte is r a) rs n.2 n.3 in
      (found.0, found.1, n.2, found.2)

  module _ (place start low : ℕ) (lt : place < length rs)
      (is_low : low ≡ max (get_or rs place blank).start start) where
    within_run : (r : Run) (a b : ℕ) → run_byte is (get_or rs place r) a ≡ Some b
        → ((get_or rs place blank).start ≤ a) × (a < run_end is (get_or rs place blank))
    within_run r a b here =
        let same : run_byte is (get_or rs place blank) a ≡ Some b =
        subst (λ x. run_byte is x a ≡ Some b) (get_or_same rs place r blank lt) here in
        some_within (get_or rs place blank).start (run_bytes is (get_or rs place blank)) a b same

    pub none_at_end : end ≤ low → HasNoNext is rs place start
    none_at_end past r a b from below here = false_from_ne_true (have_word is rs a) (λ e.
        let n = word_needs (runs_byte is rs) a e in
        let w = within_run r a b here in
        n.1 (omega (arith, is_low, past, from, below, w.0, n.0)))

    module _ (address : ℕ) (is_next : address ≡ low + (4 - low % 4) % 4) where
      pub none_there : have_word is rs address ≡ false → HasNoNext is rs place start
      none_there none r a b from below here = false_from_ne_true (have_word is rs a) (λ e.
          let n = word_needs (runs_byte is rs) a e in
          let w = within_run r a b here in
          let first : (get_or rs place blank).start ≤ address = omega (arith, is_low, is_next) in
          let least : address ≤ a = omega (arith, is_low, is_next, from, w.0, n.0) in
          let even : (address % 4) ≡ 0 = omega (arith, is_next) in
          ⊎_elim
          (λ (same : address ≡ a).
          true_false (have_word is rs a) e (ap (have_word is rs) (sym same) ∙ none))
          (λ (less : address < a).
          let gap : address + 4 ≤ a = omega (arith, less, even, n.0) in
          true_false (have_word is rs address)
          (word_of_bytes (runs_byte is rs) address even
          (λ at_end. absurd (omega (arith, at_end, gap, below)))
          (λ k small. byte_in_run place (address + k) lt (omega (arith, first))
          (omega (arith, small, gap, w.1)))) none)
          (eq-or-lt_of_le least))

      pub next_there : have_word is rs address ≡ true → IsNextFrom is rs place start address
      next_there some = record {
        reached = omega (arith, is_low, is_next);
        passes = some;
        least = λ r b from at before. false_from_ne_true (have_word is rs b) (λ e.
            let n = word_needs (runs_byte is rs) b e in
            let same : (get_or rs place blank).start ≤ b =
            subst (λ (x : Run). x.start ≤ b) (get_or_same rs place r blank lt) at in
            absurd (omega (arith, is_low, is_next, from, same, before, n.0)));
      }

  -- a run before one that starts at or before the first address
  pub none_before : (start k n : ℕ) → k < n → n < length rs → (get_or rs n blank).start ≤ start
      → HasNoNext is rs k start
  none_before start k n less lt at r a b from below here =
      let h : run_end is (get_or rs k r) ≤ (get_or rs n r).start = apart k n r less lt in
      let same : (get_or rs n r).start ≤ start =
      subst (λ (x : Run). x.start ≤ start) (get_or_same rs n blank r lt) at in
      let w = some_within (get_or rs k r).start (run_bytes is (get_or rs k r)) a b here in
      absurd (omega (arith, h, same, w.1, from))

  -- one more run without a word
  pub none_more : (start place : ℕ) → HasNoNext is rs place start
      → ((k : ℕ) → k < place → HasNoNext is rs k start)
      → (k : ℕ) → k < place + 1 → HasNoNext is rs k start
  none_more start place here before k lt = ⊎_elim
      (λ (same : k ≡ place). subst (λ j. HasNoNext is rs j start) (sym same) here)
      (λ (less : k < place). before k less)
      (eq-or-lt_of_le (let le : k ≤ place = omega arith in le))

  pub none_anywhere : (start place : ℕ) → length rs ≤ place
      → ((k : ℕ) → k < place → HasNoNext is rs k start)
      → (a : ℕ) → start ≤ a → a < 2 ^ 32 → have_word is rs a ≡ false
  none_anywhere start place all none a from below =
      false_from_ne_true (have_word is rs a) (λ e.
      let at = word_in_run a e in
      true_false (have_word is rs a) e
      (none at.0 (omega (arith, at.1, all)) blank a at.2 from below (at.3 blank)))

  pub next_found : (start place a : ℕ) → place < length rs → a < 2 ^ 32
      → ((k : ℕ) → k < place → HasNoNext is rs k start)
      → IsNextFrom is rs place start a → IsNextPassing (have_word is rs) start a
  next_found start place a lt below none next = record {
    reached = next.reached;
    passes = next.passes;
    least = λ b from before. false_from_ne_true (have_word is rs b) (λ e.
        let at = word_in_run b e in
        true_false (have_word is rs b) e (⊎_elim
        (λ (less : at.0 < place).
        none at.0 less blank b at.2 from (omega (arith, before, below)) (at.3 blank))
        (λ (more : place ≤ at.0).
        let order : (get_or rs place blank).start ≤ (get_or rs at.0 blank).start =
        ascending is rs apart place at.0 blank more at.1 in
        let w = some_within (get_or rs at.0 blank).start (run_bytes is (get_or rs at.0 blank)) b
        at.2 (at.3 blank) in
        next.least blank b from (omega (arith, order, w.0)) before)
        (cases_lt at.0 place)));
  }

-- ---- a file

module _ (is : List Image) (images : All IsImage is) (k : ℕ) (i : Image) (lt : k < length is)
    (at : (d : Image) → get_or is k d ≡ i) (rs : List Run) (index : IsOwnIndex rs i) where
  own_same : (a : ℕ) → owns i a ≡ have_word (i ∷ []) rs a
  unfolding owns
  own_same a = ap is_some (sym (word_same (runs_byte (i ∷ []) rs) (image_byte i) a index.is))

  -- an address with a word is below 2 ^ 32
  own_below : (a : ℕ) → 2 ^ 32 ≤ a → owns i a ≡ false
  unfolding owns
  own_below a past = false_from_ne_true (owns i a) (λ e.
      let n = word_needs (image_byte i) a e in
      let below : a < 2 ^ 32 = byte_below is a n.2 images
      (list_any_at (λ j. equals n.2 (image_byte j a)) is k i lt
      (subst (λ j. equals n.2 (image_byte j a) ≡ true) (sym (at i))
      (equals_some n.2 (image_byte i a) n.3))) in
      omega arith)

  pub own_next : (start : ℕ) (o : Option ℕ) → IsNextAddress (have_word (i ∷ []) rs) start o
      → IsNextOf (owns i) start o
  own_next start None none = λ a from. ⊎_elim
      (λ (below : a < 2 ^ 32). own_same a ∙ none a from below)
      (λ (past : 2 ^ 32 ≤ a). own_below a past)
      (cases_lt a (2 ^ 32))
  own_next start (Some a) next = record {
    reached = next.reached;
    passes = own_same a ∙ next.passes;
    least = λ b from before. own_same b ∙ next.least b from before;
  }

-- the stored files, and the index of one of them
module _ (m : Inside) (is : List Image) (rs : List Run) (k : ℕ) (kept : AreStoredFiles m)
    (view : m.images ≡ is) (lt : k < length is) (e : rs ≡ get_or m.own k rs) where
  pub kept_next : (i : Image) → slice_get is k ≡ Some i → (start : ℕ) (o : Option ℕ)
      → IsNextAddress (have_word (i ∷ []) rs) start o → IsNextOf (owns i) start o
  kept_next i at start o next =
      let images : All IsImage is = rw (← view) kept.images in
      let within : k < length m.images = subst (λ (xs : List Image). k < length xs) (sym view) lt in
      let same : get_or m.images k i ≡ i =
      ap (λ (xs : List Image). get_or xs k i) view ∙ get_or_from_slice_get is k i i at in
      let kept_is : IsOwnIndex (get_or m.own k rs) i =
      subst (λ j. IsOwnIndex (get_or m.own k rs) j) same (kept.each k rs i within) in
      let index : IsOwnIndex rs i = subst (λ r. IsOwnIndex r i) (sym e) kept_is in
      own_next is images k i lt (λ d. get_or_from_slice_get is k i d at) rs index start o next
