-- What holds of an image that was read.
use Rattle.std.proofs.Common.{◌≡◌, ℕ, ◌+◌, ◌-◌, ◌^◌, ◌≤◌, min, max, Bool, true, false, cond, ltb}
use Rattle.std.proofs.Common.{List, [], ◌∷◌, ◌++◌, length, map, drop, Option, Some, None, Result}
use Rattle.std.proofs.Common.{Ok, Err, refl, ap, sym, subst, ◌∙◌, ⊎_elim, arith}
use Rattle.std.specs.Prelude.{All, AllPairs, IfOk, filter, position, slice_range}
use Rattle.std.specs.List.{AllByRecursion, list_any}
use Rattle.std.proofs.lemmas.Bool.{cases_Bool, ltb-false, or_parts}
use Rattle.std.proofs.lemmas.Bool.Decides.{nat_tests}
use Rattle.std.proofs.lemmas.List.{append-nil, append_assoc, length-take, map-append}
use Rattle.std.proofs.lemmas.List.Elements.{All-from_recursion, All-get_or, filter-append}
use Rattle.std.proofs.lemmas.List.Elements.{recursion_from_All}
use Rattle.std.proofs.lemmas.List.Quantifiers.{all_pairs_push}
use Rattle.crpd_base.proofs.Results.{bind_ok, ok_is}
use Rattle.crpd_base.specs.declared.data.Image.{Image}
use Rattle.crpd_base.specs.declared.data.Segment.{Segment}
use Rattle.crpd_base.specs.declared.data.Symbol.{Symbol}
use Rattle.elf_reader.specs.declared.entries.ProgramHeader.{ProgramHeader}
use Rattle.elf_reader.specs.declared.error.ElfError.{ElfError}
use Rattle.elf_reader.specs.declared.error.ElfError.TheVariants.{NotStatic, SegmentOutside}
use Rattle.elf_reader.specs.declared.error.ElfError.TheVariants.{SegmentsOverlap, NoCode, Memory}
use Rattle.elf_reader.specs.Fields.{e_entry}
use Rattle.crpd_base.specs.Images.{AreDisjoint, IsImage}
use Rattle.crpd_base.specs.Outcome.{ensure, nowhere, Gives}
use Rattle.elf_reader.specs.Reading.{file_header, program_headers, reading}
use Rattle.elf_reader.specs.Segments.{header_end, first_shared, is_code, is_dynamic, is_loaded}
use Rattle.elf_reader.specs.Segments.{is_outside, segment, segments, shares}
use Rattle.elf_reader.specs.Symbols.{symbols}
use Rattle.elf_reader.proofs.Tables.{passes_nowhere}

-- ---- steps that found no refusal

nowhere_ok : {E : Type 0} (refusal : ℕ → E) (o : Option ℕ) (x : Unit {0})
    → nowhere refusal o ≡ Ok x → o ≡ None
nowhere_ok refusal None x e = refl
nowhere_ok refusal (Some n) x e = absurd cc

chosen_none : (b : Bool) (n : ℕ) (o : Option ℕ) → cond b (Some n) o ≡ None
    → (b ≡ false) × (o ≡ None)
chosen_none true n o e = absurd cc
chosen_none false n o e = (refl, e)

-- ---- each segment

-- what holds of each loaded header that is not outside holds of all loaded headers
loaded_all : (len : ℕ) (P : ProgramHeader → Type 0)
    → ((h : ProgramHeader) → is_loaded h ≡ true → is_outside len h ≡ false → P h)
    → (hs : List ProgramHeader) → AllByRecursion (λ h. is_outside len h ≡ false) hs
    → AllByRecursion P (filter is_loaded hs)
loaded_all len P f [] all = tt
loaded_all len P f (h ∷ hs) all = ⊎_elim
    (λ (e : is_loaded h ≡ true). rw e (f h e all.0, loaded_all len P f hs all.1))
    (λ (e : is_loaded h ≡ false). rw e (loaded_all len P f hs all.1))
    (cases_Bool (is_loaded h))

all_map : {X Y : Type 0} (P : Y → Type 0) (f : X → Y) (xs : List X)
    → AllByRecursion (λ x. P (f x)) xs → AllByRecursion P (map f xs)
all_map P f [] all = tt
all_map P f (x ∷ xs) all = (all.0, all_map P f xs all.1)

segments_all : (file : List ℕ) (P : Segment → Type 0)
    → ((h : ProgramHeader) → is_loaded h ≡ true → is_outside (length file) h ≡ false
    → P (segment file h))
    → (hs : List ProgramHeader) → position (is_outside (length file)) hs ≡ None
    → All P (segments file hs)
segments_all file P f hs e =
    All-from_recursion P (segments file hs) (all_map P (segment file) (filter is_loaded hs)
    (loaded_all (length file) (λ h. P (segment file h)) f hs
    (recursion_from_All (λ h. is_outside (length file) h ≡ false) hs
    (passes_nowhere (is_outside (length file)) hs e))))

ends_below : (file : List ℕ) (h : ProgramHeader) → is_loaded h ≡ true
    → is_outside (length file) h ≡ false → h.p_vaddr + h.p_memsz ≤ 2 ^ 32
ends_below file h loaded out = grind (arith, nat_tests)

stored_within : (file : List ℕ) (h : ProgramHeader) → is_loaded h ≡ true
    → is_outside (length file) h ≡ false → h.p_filesz ≤ h.p_memsz
stored_within file h loaded out = grind (arith, nat_tests)

range_short : (file : List ℕ) (start len : ℕ) → length (slice_range file start (start + len)) ≤ len
range_short file start len = rw (length-take (start + len - start) (drop start file)) (omega arith)

-- ---- no shared address

apart : (file : List ℕ) (h other : ProgramHeader) → is_loaded h ≡ true → is_loaded other ≡ true
    → shares h other ≡ false → AreDisjoint (segment file other) (segment file h)
apart file h other loaded too none a in_other in_h =
    let test : ltb (max h.p_vaddr other.p_vaddr) (min (header_end h) (header_end other)) ≡ false =
    rw (loaded, too) at none in
    let le : min (header_end h) (header_end other) ≤ max h.p_vaddr other.p_vaddr =
    ltb-false (max h.p_vaddr other.p_vaddr) (min (header_end h) (header_end other)) test in
    omega (arith, in_other.0, in_other.1, in_h.0, in_h.1)

apart_all : (file : List ℕ) (h : ProgramHeader) → is_loaded h ≡ true
    → (earlier : List ProgramHeader) → list_any (shares h) earlier ≡ false
    → AllByRecursion (λ s. AreDisjoint s (segment file h)) (segments file earlier)
apart_all file h loaded [] none = tt
apart_all file h loaded (g ∷ gs) none =
    let parts = or_parts (shares h g) (list_any (shares h) gs) none in
    ⊎_elim
    (λ (e : is_loaded g ≡ true).
    rw e (apart file h g loaded e parts.0, apart_all file h loaded gs parts.1))
    (λ (e : is_loaded g ≡ false). rw e (apart_all file h loaded gs parts.1))
    (cases_Bool (is_loaded g))

one_segment_more : (file : List ℕ) (hs : List ProgramHeader) (h : ProgramHeader)
    → segments file (hs ++ h ∷ []) ≡ segments file hs ++ cond (is_loaded h) (segment file h ∷ []) []
one_segment_more file hs h =
    ap (map (segment file)) (filter-append is_loaded hs (h ∷ []))
    ∙ (map-append (segment file) (filter is_loaded hs) (filter is_loaded (h ∷ []))
    ∙ ap (λ xs. segments file hs ++ xs)
    (elim (is_loaded h) as (λ b.
    map (segment file) (cond b (h ∷ []) []) ≡ cond b (segment file h ∷ []) []) [
      | true ↦ refl
      | false ↦ refl
    ]))

pairs_more : (file : List ℕ) (earlier : List ProgramHeader) (h : ProgramHeader)
    → list_any (shares h) earlier ≡ false
    → AllPairs AreDisjoint (segments file earlier)
    → AllPairs AreDisjoint (segments file (earlier ++ h ∷ []))
pairs_more file earlier h none pairs = ⊎_elim
    (λ (e : is_loaded h ≡ true).
    let is : segments file (earlier ++ h ∷ []) ≡ segments file earlier ++ segment file h ∷ [] =
    one_segment_more file earlier h ∙ rw e refl in
    let all : All (λ s. AreDisjoint s (segment file h)) (segments file earlier) =
    All-from_recursion (λ s. AreDisjoint s (segment file h)) (segments file earlier)
    (apart_all file h e earlier none) in
    subst (AllPairs AreDisjoint) (sym is)
    (all_pairs_push AreDisjoint (segments file earlier) (segment file h) pairs
    (λ k d lt. All-get_or (λ s. AreDisjoint s (segment file h)) (segments file earlier)
    k d lt all)))
    (λ (e : is_loaded h ≡ false).
    let is : segments file (earlier ++ h ∷ []) ≡ segments file earlier =
    one_segment_more file earlier h ∙ rw e (append-nil (segments file earlier)) in
    subst (AllPairs AreDisjoint) (sym is) pairs)
    (cases_Bool (is_loaded h))

pairs_all : (file : List ℕ) (earlier hs : List ProgramHeader) → first_shared earlier hs ≡ None
    → AllPairs AreDisjoint (segments file earlier)
    → AllPairs AreDisjoint (segments file (earlier ++ hs))
pairs_all file earlier [] e pairs =
    subst (λ xs. AllPairs AreDisjoint (segments file xs)) (sym (append-nil earlier)) pairs
pairs_all file earlier (h ∷ hs) e pairs =
    let c = chosen_none (list_any (shares h) earlier) (length earlier)
    (first_shared (earlier ++ h ∷ []) hs) e in
    subst (λ xs. AllPairs AreDisjoint (segments file xs)) (append_assoc earlier (h ∷ []) hs)
    (pairs_all file (earlier ++ h ∷ []) hs c.1 (pairs_more file earlier h c.0 pairs))

-- ---- the image

image_is : (file : List ℕ) (hs : List ProgramHeader) (entry : ℕ) (found : List Symbol)
    → position (is_outside (length file)) hs ≡ None → first_shared [] hs ≡ None
    → IsImage (record { entry = entry; segments = segments file hs; symbols = found })
image_is file hs entry found inside disjoint = record {
  below =
      segments_all file (λ s. s.address + s.size ≤ 2 ^ 32)
      (λ h loaded out. ends_below file h loaded out) hs inside;
  apart = pairs_all file [] hs disjoint (λ i j d lt in'. absurd (omega arith));
  sized =
      segments_all file (λ s. length s.bytes ≤ s.size)
      (λ h loaded out. omega (
        arith,
        range_short file h.p_offset h.p_filesz,
        stored_within file h loaded out,
      )) hs inside;
}

-- an image that was read
pub read_image : (file : List ℕ) (image : Image) → reading file ≡ Ok image → IsImage image
unfolding reading
read_image file image e =
    let a = bind_ok (file_header file) _ image e in
    let b = bind_ok (program_headers file) _ image a.2 in
    let c = bind_ok (nowhere NotStatic (position is_dynamic b.0)) _ image b.2 in
    let d = bind_ok (nowhere SegmentOutside (position (is_outside (length file)) b.0)) _
    image c.2 in
    let f = bind_ok (nowhere SegmentsOverlap (first_shared [] b.0)) _ image d.2 in
    let g = bind_ok (ensure (list_any is_code b.0) NoCode) _ image f.2 in
    let h = bind_ok (symbols file) _ image g.2 in
    let made : Image = record {
      entry = e_entry file;
      segments = segments file b.0;
      symbols = h.0;
    } in
    let same : made ≡ image = ok_is made image h.2 in
    subst IsImage same
    (image_is file b.0 (e_entry file) h.0
    (nowhere_ok SegmentOutside (position (is_outside (length file)) b.0) d.0 d.1)
    (nowhere_ok SegmentsOverlap (first_shared [] b.0) f.0 f.1))

pub image_from : (file : List ℕ) (result : Result Image ElfError)
    → Gives Memory (λ (x : Image). x) result (reading file) → IfOk result IsImage
image_from file (Ok image) e = read_image file image e
image_from file (Err d) e = tt
