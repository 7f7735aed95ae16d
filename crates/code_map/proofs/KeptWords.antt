-- The words that follow from the indexes of files.
use Rattle.std.proofs.Common.{◌≡◌, ℕ, ◌+◌, ◌*◌, ◌%◌, ◌^◌, ◌<◌, ◌≤◌, eqb, true, false, List, [], ◌∷◌, length}
use Rattle.std.proofs.Common.{get_or, Option, Some, None, inl, inr, ⊎_elim, refl, ap, sym, subst}
use Rattle.std.proofs.Common.{◌∙◌, arith, None, Ok, Err}
use Rattle.std.specs.Prelude.{slice_get, option_map, is_some, All, AllPairs, IfSome}
use Rattle.std.proofs.lemmas.Bool.{cases_Bool, eqb-true, eqb-false, ne_eqb}
use Rattle.std.proofs.lemmas.Option.{none-some, same_Some, slice_get-get_or}
use Rattle.crpd_base.specs.Images.{IsImage}
use Rattle.crpd_base.specs.Outcome.{nowhere}
use Rattle.crpd_base.specs.declared.data.Image.{Image}
use Rattle.code_map.proofs.Has.{has_found}
use Rattle.code_map.proofs.Indexed.{byte_below, no_image}
use Rattle.code_map.specs.declared.files.Files.TheInside.{Inside}
use Rattle.code_map.specs.Conflicts.{first_conflict}
use Rattle.code_map.specs.Reading.{files_of}
use Rattle.code_map.specs.declared.error.MapError.{MapError}
use Rattle.code_map.specs.declared.error.MapError.TheVariants.{CodeConflict}
use Rattle.code_map.specs.declared.runs.Run.{Run}
use Rattle.code_map.specs.Inner.StoredFiles.{AreStoredFiles}
use Rattle.code_map.specs.Inner.Runs.{runs_byte, IsRunBefore, IsByteIndex, IsOwnIndex}
use Rattle.code_map.specs.Words.{code_byte, image_byte, little_endian, owns, word_at, word_by, end}

pub word_same : (f g : ℕ → Option ℕ) (a : ℕ) → ((x : ℕ) → f x ≡ g x) → word_by f a ≡ word_by g a
word_same f g a h = rw (h a, h (a + 1), h (a + 2), h (a + 3)) refl

pub index_apart : (m : Inside) (is : List Image) (rs : List Run) → AreStoredFiles m
    → is ≡ m.images → rs ≡ m.runs → AllPairs (IsRunBefore is) rs
index_apart m is rs kept same e = rw (same, e) (kept.all.apart)

pub kept_word : (m : Inside) (is js : List Image) (rs : List Run) (a : ℕ) → AreStoredFiles m
    → m.images ≡ is → js ≡ m.images → rs ≡ m.runs → word_by (runs_byte js rs) a ≡ word_at is a
unfolding word_at
kept_word m is js rs a kept view same e =
    rw (same, e, ← view) (word_same (runs_byte m.images m.runs) _ a kept.all.is)

-- the index of the file at a place
pub runs_at : (all : List (List Run)) (k : ℕ) (r rs : List Run) → r ≡ get_or all k r → rs ≡ r
    → rs ≡ get_or all k rs
runs_at all k r rs at same = subst (λ x. rs ≡ get_or all k x) (sym same) (same ∙ at)

module _ (m : Inside) (is : List Image) (rs : List Run) (k : ℕ) (kept : AreStoredFiles m)
    (view : m.images ≡ is) (lt : k < length is) (e : rs ≡ get_or m.own k rs) where
  within : k < length m.images
  within = subst (λ (xs : List Image). k < length xs) (sym view) lt

  index_at : (i : Image) → i ≡ get_or m.images k i → IsOwnIndex rs i
  index_at i item =
      subst (λ r. IsOwnIndex r i) (sym e)
      (subst (λ j. IsOwnIndex (get_or m.own k rs) j) (sym item) (kept.each k rs i within))

  pub own_apart : (i : Image) → i ≡ get_or m.images k i → AllPairs (IsRunBefore (i ∷ [])) rs
  own_apart i item = (index_at i item).apart

  pub own_word : (i : Image) → i ≡ get_or m.images k i → (a : ℕ)
      → option_map (λ i. owns i a) (slice_get is k)
      ≡ Some (is_some (word_by (runs_byte (i ∷ []) rs) a))
  unfolding owns
  own_word i item a =
      let same : get_or is k i ≡ i =
      sym (ap (λ (xs : List Image). get_or xs k i) view) ∙ sym item in
      ap (option_map (λ i. owns i a)) (slice_get-get_or is k i lt ∙ ap Some same)
      ∙ ap (λ w. Some (is_some w))
      (sym (word_same (runs_byte (i ∷ []) rs) (image_byte i) a (index_at i item).is))

-- a word ends below the return address of jobs
pub within_end : (byte : ℕ → Option ℕ) (a : ℕ) (o : Option ℕ) → a < 2 ^ 32 → o ≡ word_by byte a
    → IfSome o (λ _. a + 4 ≤ end)
within_end byte a None below e = tt
within_end byte a (Some w) below e = ⊎_elim
    (λ (even : (a % 4) ≡ 0). ⊎_elim
    (λ (here : eqb a end ≡ true). absurd (none-some w (sym (e ∙ rw (eqb-true a end here) refl))))
    (λ (ne : eqb a end ≡ false). let h = eqb-false a end ne in omega arith)
    (cases_Bool (eqb a end)))
    (λ (odd : (a % 4) ≡ 0 → ⊥). absurd (none-some w (sym (e ∙ rw (ne_eqb (a % 4) 0 odd) refl))))
    (⊎_elim (λ (e : eqb (a % 4) 0 ≡ true). inl (eqb-true (a % 4) 0 e))
    (λ (e : eqb (a % 4) 0 ≡ false). inr (eqb-false (a % 4) 0 e)) (cases_Bool (eqb (a % 4) 0)))

-- reading files that conflict is refused
pub conflict_refused : (is js : List Image) (o : Option ℕ) (e : MapError) → js ≡ is
    → o ≡ first_conflict js → Err e ≡ nowhere CodeConflict o → files_of is ≡ Err e
unfolding files_of
conflict_refused is js o e same first refused = rw (← same, ← first, ← refused) refl

pub no_conflict : (o : Option ℕ) (u : Unit {0}) → Ok u ≡ nowhere CodeConflict o → o ≡ None
no_conflict None u e = refl
no_conflict (Some a) u e = absurd cc

pub is_kept : (m : Inside) (is js : List Image) (rs : List Run) (own : List (List Run))
    → is ≡ m.images → js ≡ m.images → m.runs ≡ rs → m.own ≡ own
    → IsByteIndex is rs (code_byte is)
    → ((k : ℕ) (r : List Run) (i : Image) → k < length js
    → IsOwnIndex (get_or own k r) (get_or js k i)) → length own ≡ length js
    → All IsImage is → ((a b : ℕ) → code_byte is a ≡ Some b → b < 256) → AreStoredFiles m
is_kept m is js rs own a b c d all each count images bytes = record {
  all = rw (c, ← a) all;
  each = λ k r i lt. rw (d, ← b) (each k r i (rw b lt));
  files = rw (d, ← b) count;
  images = rw (← a) images;
  bytes = rw (← a) bytes;
}

-- ---- the words of files

little_below : (w x y z : ℕ) → w < 256 → x < 256 → y < 256 → z < 256
    → w + 256 * x + 65536 * y + 16777216 * z < 2 ^ 32
little_below w x y z a b c d = omega arith

little_some : (a b c d : Option ℕ) (n : ℕ) → little_endian a b c d ≡ Some n
    → ((w : ℕ) → a ≡ Some w → w < 256) → ((w : ℕ) → b ≡ Some w → w < 256)
    → ((w : ℕ) → c ≡ Some w → w < 256) → ((w : ℕ) → d ≡ Some w → w < 256)
    → (n < 2 ^ 32) × (w : ℕ) × (a ≡ Some w)
little_some None b c d n e = absurd (none-some n e)
little_some (Some w) None c d n e = absurd (none-some n e)
little_some (Some w) (Some x) None d n e = absurd (none-some n e)
little_some (Some w) (Some x) (Some y) None n e = absurd (none-some n e)
little_some (Some w) (Some x) (Some y) (Some z) n e = λ a b c d. (
  subst (λ m. m < 2 ^ 32) (same_Some _ n e)
      (little_below w x y z (a w refl) (b x refl) (c y refl) (d z refl)),
  w,
  refl,
)

-- the address and the bytes of a word
pub word_where : (byte : ℕ → Option ℕ) (a w : ℕ) → word_by byte a ≡ Some w
    → ((a % 4) ≡ 0) × (a ≡ end → ⊥)
    × (little_endian (byte a) (byte (a + 1)) (byte (a + 2)) (byte (a + 3)) ≡ Some w)
word_where byte a w e = ⊎_elim
    (λ (even : eqb (a % 4) 0 ≡ true). ⊎_elim
    (λ (here : eqb a end ≡ true). absurd (none-some w (rw (even, here) at e)))
    (λ (ne : eqb a end ≡ false). (eqb-true (a % 4) 0 even, eqb-false a end ne, rw (even, ne) at e))
    (cases_Bool (eqb a end)))
    (λ (odd : eqb (a % 4) 0 ≡ false). absurd (none-some w (rw odd at e)))
    (cases_Bool (eqb (a % 4) 0))

-- a word ends below the return address of jobs, and is below 2 ^ 32
pub words_are : (m : Inside) (is : List Image) → AreStoredFiles m → m.images ≡ is → (a w : ℕ)
    → word_at is a ≡ Some w → (a + 4 ≤ end) × (w < 2 ^ 32)
unfolding word_at
words_are m is kept view a w e =
    let bytes : (x b : ℕ) → code_byte is x ≡ Some b → b < 256 = rw (← view) kept.bytes in
    let images : All IsImage is = rw (← view) kept.images in
    let t = word_where (code_byte is) a w e in
    let some = little_some (code_byte is a) (code_byte is (a + 1)) (code_byte is (a + 2))
    (code_byte is (a + 3)) w t.2 (bytes a) (bytes (a + 1)) (bytes (a + 2)) (bytes (a + 3)) in
    let below : a < 2 ^ 32 = byte_below is a some.1 images
    (has_found (λ i. image_byte i a) is some.1 some.2) in
    let even : (a % 4) ≡ 0 = t.0 in
    let ne : a ≡ end → ⊥ = t.1 in
    (omega arith, some.0)
