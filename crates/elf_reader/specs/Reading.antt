-- The meaning of the bytes of an ELF32 file: the image, or the first refusal.
use Rattle.std.specs.Prelude.{ℕ, ◌+◌, ◌*◌, ◌==◌, ◌&&◌, ◌||◌, List, [], ◌∷◌, length, take}
use Rattle.std.specs.Prelude.{slice_index, position, nat_le, Result, Ok}
use Rattle.std.specs.List.{list_any}
use Rattle.std.specs.Str.{bytes_eq}
use Rattle.crpd_base.specs.declared.data.Image.{Image}
use Rattle.elf_reader.specs.declared.entries.ProgramHeader.{ProgramHeader}
use Rattle.elf_reader.specs.declared.error.ElfError.{ElfError}
use Rattle.elf_reader.specs.declared.error.ElfError.TheVariants.{Short, NotElf, NotElf32Little}
use Rattle.elf_reader.specs.declared.error.ElfError.TheVariants.{NotRiscV, NotExecutable, NotStatic}
use Rattle.elf_reader.specs.declared.error.ElfError.TheVariants.{HeaderOutside, SegmentOutside}
use Rattle.elf_reader.specs.declared.error.ElfError.TheVariants.{SegmentsOverlap, NoCode}
use Rattle.elf_reader.specs.Fields.{file_header_bytes, program_header_bytes, e_type, e_machine}
use Rattle.elf_reader.specs.Fields.{e_entry, e_phoff, e_phentsize, e_phnum}
use Rattle.crpd_base.specs.Outcome.{◌>>=◌, ensure, nowhere}
use Rattle.elf_reader.specs.Segments.{program_table, is_dynamic, is_outside, first_shared, is_code}
use Rattle.elf_reader.specs.Segments.{segments}
use Rattle.elf_reader.specs.Symbols.{symbols}

-- 0x7F and the letters ELF
abbrev pub magic : List ℕ
magic = 127 ∷ 69 ∷ 76 ∷ 70 ∷ []

-- the file's header: an executable (ET_EXEC) of 32 bits, little-endian, version 1, for RISC-V
-- (EM_RISCV)
unfoldable pub file_header : List ℕ → Result (Unit {0}) ElfError
file_header file = do
  _ ← ensure (nat_le file_header_bytes (length file)) Short
  _ ← ensure (bytes_eq (take 4 file) magic) NotElf
  _ ← ensure (slice_index file 4 == 1 && slice_index file 5 == 1 && slice_index file 6 == 1)
      NotElf32Little
  _ ← ensure (e_machine file == 243) NotRiscV
  ensure (e_type file == 2) NotExecutable

-- the program headers; if there are any, each has 32 bytes, and their table is in the file
unfoldable pub program_headers : List ℕ → Result (List ProgramHeader) ElfError
program_headers file = do
  _ ← ensure (e_phnum file == 0 || e_phentsize file == program_header_bytes
      && nat_le (e_phoff file + program_header_bytes * e_phnum file) (length file)) HeaderOutside
  Ok (program_table file)

-- the image, or the first refusal
unfoldable pub reading : List ℕ → Result Image ElfError
reading file = do
  _ ← file_header file
  headers ← program_headers file
  _ ← nowhere NotStatic (position is_dynamic headers)
  _ ← nowhere SegmentOutside (position (is_outside (length file)) headers)
  _ ← nowhere SegmentsOverlap (first_shared [] headers)
  _ ← ensure (list_any is_code headers) NoCode
  found ← symbols file
  Ok (record { entry = e_entry file; segments = segments file headers; symbols = found })
