-- The bytes of the pieces are the files' code bytes.
use Rattle.std.proofs.Common.{◌≡◌, ℕ, ◌+◌, ◌-◌, ◌^◌, ◌<◌, ◌≤◌, Bool, true, false, ◌||◌, List, []}
use Rattle.std.proofs.Common.{◌∷◌, ◌++◌, length, get_or, Option, Some, None, Result, Ok, Err, refl}
use Rattle.std.proofs.Common.{ap, sym, subst, ◌∙◌, ⊎_elim, arith, suc, zero}
use Rattle.std.specs.Prelude.{All, AllPairs, IfOk, OnOk, map, filter, slice_get}
use Rattle.std.specs.List.Sorted.{IsPermutation}
use Rattle.std.specs.declared.alloc.AllocError.{AllocError}
use Rattle.std.proofs.lemmas.Bool.{cases_Bool, le-leb, cases_lt}
use Rattle.std.proofs.lemmas.Option.{get_or_from_slice_get, none-some, same_Some, slice_get_within}
use Rattle.std.proofs.lemmas.List.Elements.{All-append, All-filter, All-map, All-nil}
use Rattle.std.proofs.lemmas.List.Folds.{list_any-append}
use Rattle.std.proofs.lemmas.List.Sorted.{All-permutation, list_any-IsPermutation}
use Rattle.crpd_base.specs.Images.{IsImage, IsIn}
use Rattle.crpd_base.specs.declared.data.Image.{Image}
use Rattle.crpd_base.specs.declared.data.Segment.{Segment}
use Rattle.code_map.specs.declared.index.Indexed.{Indexed}
use Rattle.code_map.specs.declared.pieces.Piece.{Piece}
use Rattle.code_map.specs.declared.runs.Run.{Run}
use Rattle.code_map.specs.Conflicts.{disagree, first_conflict, is_conflict, least_below}
use Rattle.code_map.specs.Inner.Conflicts.{IsFirstPassing, IsLeastPassing}
use Rattle.code_map.specs.Inner.Pieces.{HasBytes, all_pieces, piece_byte, piece_of, pieces_of}
use Rattle.code_map.specs.Inner.Joined.{IsPieceBefore}
use Rattle.code_map.specs.Inner.Pieces.{piece_content, piece_end, IsAt}
use Rattle.code_map.specs.Inner.Runs.{run_bytes, run_end, run_of, runs_byte, IsRunBefore}
use Rattle.code_map.specs.Inner.Runs.{IsByteIndex, IsOwnIndex}
use Rattle.code_map.specs.Words.{byte_from, code_byte, find_map, image_byte, segment_byte}
use Rattle.code_map.proofs.First.{found_some, or_nothing}
use Rattle.code_map.proofs.Sweep.{first_same, no_piece, same_never}
use Rattle.std.proofs.lemmas.List.{get_or-map, get_or_append_left, length-map}
use Rattle.std.specs.Option.{option_or}
use Rattle.std.proofs.Math.Seq.{get_or-append_seam}
use Rattle.std.specs.Cmp.{both_ways}
use Rattle.code_map.proofs.Found.{before_none, some_within}
use Rattle.code_map.proofs.Has.{any_at, equals, equals_itself, equals_true, found_has, has}
use Rattle.code_map.proofs.Has.{has_found, two, same_disagree, same_found}

-- the byte of a piece
abbrev pub byte_at : ℕ → ℕ × List ℕ → Option ℕ
byte_at a c = byte_from c.0 c.1 a

has_map : {X Y : Type 0} (f : Y → Option ℕ) (g : X → Y) (xs : List X) (u : ℕ)
    → has f (map g xs) u ≡ has (λ x. f (g x)) xs u
has_map f g [] u = refl
has_map f g (x ∷ xs) u = ap (λ b. equals u (f (g x)) || b) (has_map f g xs u)

has_segments : (a u : ℕ) (ss : List Segment)
    → has (byte_at a) (map piece_of (filter (λ s. s.executable) ss)) u
    ≡ has (λ s. segment_byte s a) ss u
has_segments a u [] = refl
has_segments a u (s ∷ ss) = ⊎_elim
    (λ (e : s.executable ≡ true).
    rw e (ap (λ b. equals u (byte_from s.address s.bytes a) || b) (has_segments a u ss)))
    (λ (e : s.executable ≡ false). rw e (has_segments a u ss))
    (cases_Bool s.executable)

-- an empty image, which a look-up past the end of a list gives
pub no_image : Image
no_image = record { entry = 0; segments = []; symbols = [] }

-- ---- the segments of an image are disjoint

blank : Segment
blank = record { address = 0; size = 0; bytes = []; executable = false }

segment_within : (s : Segment) (a u : ℕ) → length s.bytes ≤ s.size
    → segment_byte s a ≡ Some u → IsIn s a
segment_within s a u sized e = ⊎_elim
    (λ (code : s.executable ≡ true). let w = some_within s.address s.bytes a u (rw code at e) in
    (w.0, omega (arith, w.1)))
    (λ (none : s.executable ≡ false). absurd (none-some u (rw none at e)))
    (cases_Bool s.executable)

one_segment : (i : Image) (a u w : ℕ) (j k : ℕ) → IsImage i → j < length i.segments
    → k < length i.segments
    → segment_byte (get_or i.segments j blank) a ≡ Some u
    → segment_byte (get_or i.segments k blank) a ≡ Some w → u ≡ w
one_segment i a u w j k image inj ink one other =
    let in_j : IsIn (get_or i.segments j blank) a =
    segment_within (get_or i.segments j blank) a u (image.sized j blank inj) one in
    let in_k : IsIn (get_or i.segments k blank) a =
    segment_within (get_or i.segments k blank) a w (image.sized k blank ink) other in
    ⊎_elim
    (λ (less : j < k). absurd (image.apart j k blank less ink a in_j in_k))
    (λ (le : k ≤ j). ⊎_elim
    (λ (less : k < j). absurd (image.apart k j blank less inj a in_k in_j))
    (λ (ge : j ≤ k). let same : j ≡ k = omega arith in
    same_Some u w (sym one ∙ (ap (λ n. segment_byte (get_or i.segments n blank) a) same ∙ other)))
    (cases_lt k j))
    (cases_lt j k)

has_image : (i : Image) (a u : ℕ) → IsImage i
    → has (λ s. segment_byte s a) i.segments u ≡ equals u (image_byte i a)
has_image i a u image =
    both_ways (has (λ s. segment_byte s a) i.segments u) (equals u (image_byte i a))
    (λ h.
    let at = any_at (λ s. equals u (segment_byte s a)) i.segments h in
    let w = found_has (λ s. segment_byte s a) i.segments u h in
    let first = found_some (λ s. segment_byte s a) i.segments w.0 w.1 in
    let same : u ≡ w.0 = one_segment i a u w.0 at.0 first.0 image at.1 first.1
    (equals_true u (segment_byte (get_or i.segments at.0 blank) a) (at.2 blank)) (first.2 blank) in
    rw (w.1, ← same) (equals_itself u))
    (λ h. has_found (λ s. segment_byte s a) i.segments u (equals_true u (image_byte i a) h))

has_pieces : (is : List Image) (a u : ℕ) → All IsImage is
    → has (byte_at a) (all_pieces is) u ≡ has (λ i. image_byte i a) is u
has_pieces [] a u all = refl
has_pieces (i ∷ is) a u all =
    list_any-append (λ c. equals u (byte_at a c)) (pieces_of i) (all_pieces is)
    ∙ (ap (λ b. b || has (byte_at a) (all_pieces is) u)
    (has_segments a u i.segments ∙ has_image i a u (all 0 i (omega arith)))
    ∙ ap (λ b. equals u (image_byte i a) || b)
    (has_pieces is a u (λ k d lt. all (suc k) d (omega arith))))

-- ---- the lowest conflict

pub none_below : (n : ℕ) (p : ℕ → Bool) → ((a : ℕ) → p a ≡ false) → least_below n p ≡ None
unfolding least_below
none_below zero p none = refl
none_below (suc n) p none = rw (none_below n p none, none n) refl

lower_none : (n : ℕ) (p : ℕ → Bool) → ((a : ℕ) → a < n → p a ≡ false) → least_below n p ≡ None
unfolding least_below
lower_none zero p none = refl
lower_none (suc n) p none =
    rw (lower_none n p (λ a lt. none a (omega arith)), none n (omega arith)) refl

pub least_is : (n : ℕ) (p : ℕ → Bool) (a : ℕ) → IsLeastPassing p a → a < n
    → least_below n p ≡ Some a
unfolding least_below
least_is zero p a least lt = absurd (omega arith)
least_is (suc n) p a least lt = ⊎_elim
    (λ (less : a < n). rw (least_is n p a least less) refl)
    (λ (le : n ≤ a). let same : n ≡ a = omega arith in
    rw (lower_none n p (λ b lt. least.least b (omega arith)), same, least.passes) refl)
    (cases_lt a n)

-- the address of a code byte is below 2 ^ 32
pub byte_below : (is : List Image) (a u : ℕ) → All IsImage is
    → has (λ i. image_byte i a) is u ≡ true → a < 2 ^ 32
byte_below is a u all h =
    let no_image : Image = record { entry = 0; segments = []; symbols = [] } in
    let at = any_at (λ i. equals u (image_byte i a)) is h in
    let i : Image = get_or is at.0 no_image in
    let image : IsImage i = all at.0 no_image at.1 in
    let s = found_some (λ s. segment_byte s a) i.segments u
    (equals_true u (image_byte i a) (at.2 no_image)) in
    let within : IsIn (get_or i.segments s.0 blank) a =
    segment_within (get_or i.segments s.0 blank) a u (image.sized s.0 blank s.1) (s.2 blank) in
    omega (arith, within.1, image.below s.0 blank s.1)

-- ---- pieces end at or below 2 ^ 32

abbrev pub Fits : ℕ × List ℕ → Type 0
Fits c = c.0 + length c.1 ≤ 2 ^ 32

pieces_fit : (is : List Image) → All IsImage is → All Fits (all_pieces is)
pieces_fit [] all = All-nil Fits
pieces_fit (i ∷ is) all =
    let image : IsImage i = all 0 i (omega arith) in
    All-append Fits (pieces_of i) (all_pieces is)
    (All-map Fits piece_of (filter (λ s. s.executable) i.segments)
    (All-filter (λ s. s.executable) (λ s. Fits (piece_of s)) i.segments
    (λ k d lt. omega (arith, image.sized k d lt, image.below k d lt))))
    (pieces_fit is (λ k d lt. all (suc k) d (omega arith)))

told_at : (ps : List Piece) (k : ℕ) (d : Piece) → k < length ps → All Fits (map piece_content ps)
    → Fits (piece_content (get_or ps k d))
told_at [] k d lt all = absurd (omega arith)
told_at (p ∷ ps) zero d lt all = all 0 (piece_content d) (omega arith)
told_at (p ∷ ps) (suc k) d lt all =
    told_at ps k d (omega arith) (λ j c in'. all (suc j) c (omega arith))

-- ---- the runs of pieces

run_bytes_of : (is : List Image) (p : Piece) → IsAt is p → run_bytes is (run_of p) ≡ p.bytes.now
unfolding run_bytes
run_bytes_of is p at = rw at.is (sym at.bytes)

runs_are : (is : List Image) (ps : List Piece) → All (IsAt is) ps → (a : ℕ)
    → runs_byte is (map run_of ps) a ≡ find_map (λ p. piece_byte p a) ps
runs_are is [] all a = refl
runs_are is (p ∷ ps) all a =
    rw (run_bytes_of is p (all 0 p (omega arith)))
    (ap (option_or (piece_byte p a)) (runs_are is ps (λ k d lt. all (suc k) d (omega arith)) a))

runs_apart : (is : List Image) (ps : List Piece) → All (IsAt is) ps → AllPairs IsPieceBefore ps
    → AllPairs (IsRunBefore is) (map run_of ps)
runs_apart is ps all apart i j d lt in' =
    let within : j < length ps = omega (arith, length-map ps run_of) in
    let p : Piece = get_or ps i no_piece in
    let h : piece_end (get_or ps i no_piece) ≤ (get_or ps j no_piece).start =
    apart i j no_piece lt within in
    rw (
      get_or-map run_of ps i no_piece d (omega (arith, lt, within)),
      get_or-map run_of ps j no_piece d within,
    )
    (omega (
      arith,
      h,
      ap length (run_bytes_of is p (all i no_piece (omega (arith, lt, within)))),
    ))

-- ---- the index of files

module _ (is : List Image) (ps : List Piece) (all : All IsImage is)
    (same : IsPermutation (all_pieces is) (map piece_content ps)) where
  pub same_bytes : (a u : ℕ) → has (λ p. piece_byte p a) ps u ≡ has (λ i. image_byte i a) is u
  same_bytes a u =
      sym (has_map (byte_at a) piece_content ps u)
      ∙ (sym (list_any-IsPermutation (λ c. equals u (byte_at a c)) (all_pieces is)
      (map piece_content ps) same)
      ∙ has_pieces is a u all)

  conflicts_are : (a : ℕ) → is_conflict is a ≡ disagree (λ p. piece_byte p a) ps
  conflicts_are a =
      sym (same_disagree (λ p. piece_byte p a) ps (λ i. image_byte i a) is (same_bytes a))

  pub conflict_is : (o : Option ℕ) → IsFirstPassing (λ a. disagree (λ p. piece_byte p a) ps) o
      → o ≡ first_conflict is
  unfolding first_conflict
  conflict_is None none = sym (none_below (2 ^ 32) (is_conflict is) (λ a. conflicts_are a ∙ none a))
  conflict_is (Some a) least =
      let here : IsLeastPassing (is_conflict is) a =
      first_same (is_conflict is) (λ a. disagree (λ p. piece_byte p a) ps)
      (Some a) conflicts_are least in
      let one = two (λ i. image_byte i a) is here.passes in
      sym (least_is (2 ^ 32) (is_conflict is) a here (byte_below is a one.0 all one.2))

  pub index_is : (rs : List Run) (parts : List Piece) (o : Option ℕ) → rs ≡ map run_of parts
      → All (IsAt is) parts → AllPairs IsPieceBefore parts
      → ((a : ℕ) → find_map (λ p. piece_byte p a) parts ≡ find_map (λ p. piece_byte p a) ps)
      → IsFirstPassing (λ a. disagree (λ p. piece_byte p a) ps) o → o ≡ None
      → IsByteIndex is rs (code_byte is)
  index_is rs parts None runs at apart bytes none e = record {
    apart = rw runs (runs_apart is parts at apart);
    is = λ a.
        rw runs (runs_are is parts at a)
        ∙ (bytes a ∙ same_found (λ p. piece_byte p a) ps (λ i. image_byte i a) is (same_bytes a)
        (conflicts_are a ∙ none a));
  }
  index_is rs parts (Some c) runs at apart bytes least e = absurd (none-some c (sym e))

  pub all_below : All (λ p. p.start + length p.bytes.now ≤ 2 ^ 32) ps
  all_below k d lt =
      told_at ps k d lt
      (All-permutation Fits (all_pieces is) (map piece_content ps) same (pieces_fit is all))

-- a byte of a piece is a byte
byte_in : (start : ℕ) (bytes : List ℕ) (a b : ℕ) → All (λ x. x < 256) bytes
    → byte_from start bytes a ≡ Some b → b < 256
byte_in start bytes a b all e = ⊎_elim
    (λ (less : a < start). absurd (none-some b (sym (before_none start bytes a less) ∙ e)))
    (λ (le : start ≤ a).
    let at : slice_get bytes (a - start) ≡ Some b = rw (le-leb start a le) at e in
    let lt : a - start < length bytes = slice_get_within bytes (a - start) b at in
    subst (λ x. x < 256) (get_or_from_slice_get bytes (a - start) b 0 at) (all (a - start) 0 lt))
    (cases_lt a start)

pub code_bytes : (is : List Image) (ps : List Piece) → All IsImage is
    → IsPermutation (all_pieces is) (map piece_content ps) → All HasBytes ps → (a b : ℕ)
    → code_byte is a ≡ Some b → b < 256
code_bytes is ps all same bytes a b e =
    let there = any_at (λ p. equals b (piece_byte p a)) ps
    (same_bytes is ps all same a b ∙ has_found (λ i. image_byte i a) is b e) in
    let p : Piece = get_or ps there.0 no_piece in
    byte_in p.start p.bytes.now a b (bytes there.0 no_piece there.1)
    (equals_true b (piece_byte p a) (there.2 no_piece))

-- ---- one file alone

-- a file has no conflict with itself
alone : (i : Image) → first_conflict (i ∷ []) ≡ None
unfolding first_conflict
alone i =
    none_below (2 ^ 32) (is_conflict (i ∷ []))
    (λ a. rw (or_nothing (image_byte i a), same_never (image_byte i a)) refl)

pub alone_index : (i : Image) (is : List Image) (rs : List Run) (o : Option ℕ) → is ≡ i ∷ []
    → o ≡ first_conflict is → (o ≡ None → IsByteIndex is rs (code_byte is)) → IsOwnIndex rs i
alone_index i is rs o one conflict index =
    let found : IsByteIndex (i ∷ []) rs (code_byte (i ∷ [])) =
    subst (λ xs. IsByteIndex xs rs (code_byte xs)) one
    (index (conflict ∙ (ap first_conflict one ∙ alone i))) in
    record { apart = found.apart; is = λ a. found.is a ∙ or_nothing (image_byte i a) }

-- one more index
pub indexes_more : (own : List (List Run)) (is : List Image) (n : ℕ) (rs : List Run) (i : Image)
    → length own ≡ n → n < length is → i ≡ get_or is n i → IsOwnIndex rs i
    → ((k : ℕ) (r : List Run) (d : Image) → k < n
    → IsOwnIndex (get_or own k r) (get_or is k d))
    → (k : ℕ) (r : List Run) (d : Image) → k < n + 1
    → IsOwnIndex (get_or (own ++ rs ∷ []) k r) (get_or is k d)
indexes_more own is n rs i count lt item one all k r d below = ⊎_elim
    (λ (less : k < n). let inside : k < length own = omega arith in
    rw (get_or_append_left own (rs ∷ []) r k inside) (all k r d less))
    (λ (le : n ≤ k).
    let seam : k ≡ length own = omega arith in
    let at : k ≡ n = omega arith in
    let same : get_or is k d ≡ i = ap (λ m. get_or is m d) at
    ∙ (image_same is n d i lt ∙ sym item) in
    rw (same, seam, get_or-append_seam own rs [] r) one)
    (cases_lt k n)
  where
    image_same : (xs : List Image) (n : ℕ) (c d : Image) → n < length xs
        → get_or xs n c ≡ get_or xs n d
    image_same [] n c d lt = absurd (omega arith)
    image_same (x ∷ xs) zero c d lt = refl
    image_same (x ∷ xs) (suc n) c d lt = image_same xs n c d (omega arith)
