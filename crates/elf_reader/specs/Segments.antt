-- Program headers: which define segments, and how they can be wrong.
use Rattle.std.specs.Prelude.{ℕ, ◌+◌, ◌*◌, ◌%◌, ◌^◌, ◌==◌, ◌<◌, ◌≤◌, min, max, Bool, not, ◌&&◌}
use Rattle.std.specs.Prelude.{◌||◌, List, [], ◌∷◌, ◌++◌, length, map, filter, slice_range, nat_lt}
use Rattle.std.specs.Prelude.{nat_le, Option, Some, None, if◌then◌else◌}
use Rattle.std.specs.List.{list_any, range_with_len, AllByRecursion}
use Rattle.crpd_base.specs.declared.data.Segment.{Segment}
use Rattle.elf_reader.specs.declared.entries.ProgramHeader.{ProgramHeader}
use Rattle.elf_reader.specs.Fields.{program_header_bytes, e_phoff, e_phnum, program_header}

-- the program header table
abbrev pub program_table : List ℕ → List ProgramHeader
program_table file =
    map (λ i. program_header file (e_phoff file + program_header_bytes * i))
    (range_with_len 0 (e_phnum file))

-- PT_LOAD
abbrev pub is_loaded : ProgramHeader → Bool
is_loaded h = h.p_type == 1

-- PT_DYNAMIC or PT_INTERP
abbrev pub is_dynamic : ProgramHeader → Bool
is_dynamic h = h.p_type == 2 || h.p_type == 3

-- PF_X, the lowest bit of the flags
abbrev pub is_executable : ProgramHeader → Bool
is_executable h = h.p_flags % 2 == 1

-- the address after a header's last address
abbrev pub header_end : ProgramHeader → ℕ
header_end h = h.p_vaddr + h.p_memsz

-- its bytes are in a file of this length, they fit in its addresses, and these are below 2 ^ 32
abbrev pub lies_in_file : ℕ → ProgramHeader → Bool
lies_in_file len h =
    nat_le (h.p_offset + h.p_filesz) len && nat_le h.p_filesz h.p_memsz
    && nat_le (header_end h) (2 ^ 32)

-- a header that is loaded and does not fit
abbrev pub is_outside : ℕ → ProgramHeader → Bool
is_outside len h = is_loaded h && not (lies_in_file len h)

-- a range of addresses and those of a loaded header have one in common
abbrev pub occupies : ℕ → ℕ → ProgramHeader → Bool
occupies from to h = is_loaded h && nat_lt (max from h.p_vaddr) (min to (header_end h))

-- two loaded headers have an address in common
abbrev pub shares : ProgramHeader → ProgramHeader → Bool
shares h other = is_loaded h && occupies h.p_vaddr (header_end h) other

-- the place of the first header that shares an address with an earlier one
abbrev pub first_shared : List ProgramHeader → List ProgramHeader → Option ℕ
first_shared earlier [] = None
first_shared earlier (h ∷ hs) =
    if list_any (shares h) earlier then Some (length earlier)
    else first_shared (earlier ++ h ∷ []) hs

-- a header that is loaded, executable and has bytes
abbrev pub is_code : ProgramHeader → Bool
is_code h = is_loaded h && is_executable h && nat_lt 0 h.p_filesz

-- the segment that a header loads
abbrev pub segment : List ℕ → ProgramHeader → Segment
segment file h = record {
  address = h.p_vaddr;
  size = h.p_memsz;
  bytes = slice_range file h.p_offset (h.p_offset + h.p_filesz);
  executable = is_executable h;
}

-- the segments that the headers load, in the order of the table
abbrev pub segments : List ℕ → List ProgramHeader → List Segment
segments file hs = map (segment file) (filter is_loaded hs)

-- ---- ranges of addresses, each with its start and its end (not included)

-- two ranges of addresses have one in common
abbrev pub meets : ℕ → ℕ → ℕ × ℕ → Bool
meets from to range = nat_lt (max from range.0) (min to range.1)

-- the ranges are not empty, increase, and have no address in common
abbrev pub AreDisjointRanges : List (ℕ × ℕ) → Type 0
AreDisjointRanges [] = Unit {0}
AreDisjointRanges (r ∷ rs) = (r.0 < r.1) × AllByRecursion (λ s. r.1 ≤ s.0) rs × AreDisjointRanges rs
