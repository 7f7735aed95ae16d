-- Loops that read the entries of a table one by one.
use Rattle.std.proofs.Common.{◌≡◌, ℕ, ◌+◌, ◌<◌, ◌≤◌, Bool, false, List, [], ◌∷◌, ◌++◌, map, length}
use Rattle.std.proofs.Common.{get_or, Option, Some, None, refl, ap, sym, ◌∙◌, arith}
use Rattle.std.specs.Prelude.{position, filter_map}
use Rattle.elf_reader.specs.declared.entries.ProgramHeader.{ProgramHeader}
use Rattle.elf_reader.specs.Segments.{is_outside}
use Rattle.std.specs.List.{range_with_len}
use Rattle.std.proofs.lemmas.Bool.Decides.{nat_tests}
use Rattle.std.proofs.lemmas.List.{append-nil}
use Rattle.std.proofs.lemmas.List.Elements.{filter_map-append}
use Rattle.std.proofs.lemmas.List.FromFn.{map-range_with_len_more}
use Rattle.std.proofs.lemmas.List.Sums.{fails_before_first}

pub one_kept : {X Y : Type 0} (h : X → Option Y) (f : ℕ → X) (xs ys : List Y) (i : ℕ) (y : Y)
    → xs ≡ filter_map h (map f (range_with_len 0 i)) → ys ≡ xs ++ y ∷ [] → h (f i) ≡ Some y
    → ys ≡ filter_map h (map f (range_with_len 0 (i + 1)))
one_kept h f xs ys i y e g is =
    g ∙ ap (λ zs. zs ++ y ∷ []) e
    ∙ sym (ap (filter_map h) (map-range_with_len_more f 0 i i (omega arith))
    ∙ filter_map-append h (map f (range_with_len 0 i)) (f i ∷ []) ∙ rw is refl)

pub one_left : {X Y : Type 0} (h : X → Option Y) (f : ℕ → X) (xs : List Y) (i : ℕ)
    → xs ≡ filter_map h (map f (range_with_len 0 i)) → h (f i) ≡ None
    → xs ≡ filter_map h (map f (range_with_len 0 (i + 1)))
one_left h f xs i e is =
    e ∙ sym (ap (filter_map h) (map-range_with_len_more f 0 i i (omega arith))
    ∙ filter_map-append h (map f (range_with_len 0 i)) (f i ∷ [])
    ∙ rw is (append-nil (filter_map h (map f (range_with_len 0 i)))))

-- a test that the search found nowhere fails at each place
pub passes_nowhere : {X : Type 0} (p : X → Bool) (xs : List X) → position p xs ≡ None
    → (i : ℕ) (d : X) → i < length xs → p (get_or xs i d) ≡ false
passes_nowhere p xs e i d lt = fails_before_first p xs i d (grind (arith, nat_tests))

-- the bytes of a loaded header that is not outside are in the file
pub inside : (len : ℕ) (h : ProgramHeader) → is_outside len h ≡ false → h.p_type ≡ 1
    → h.p_offset + h.p_filesz ≤ len
inside len h out loaded = grind (arith, nat_tests)
