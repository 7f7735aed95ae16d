-- Sections and symbols.
use Rattle.std.specs.Prelude.{ℕ, ◌+◌, ◌*◌, ◌/◌, ◌%◌, ◌==◌, Bool, ◌&&◌, ◌||◌, List, [], length, drop}
use Rattle.std.specs.Prelude.{take, map, filter_map, find, position, slice_get, slice_range, nat_le}
use Rattle.std.specs.Prelude.{Option, Some, None, option_and_then, option_map, Result, Ok, Err}
use Rattle.std.specs.Prelude.{if◌then◌else◌}
use Rattle.std.specs.List.{range_with_len}
use Rattle.crpd_base.specs.declared.data.Symbol.{Symbol}
use Rattle.elf_reader.specs.declared.entries.SectionHeader.{SectionHeader}
use Rattle.elf_reader.specs.declared.entries.SymbolEntry.{SymbolEntry}
use Rattle.elf_reader.specs.declared.error.ElfError.{ElfError}
use Rattle.elf_reader.specs.declared.error.ElfError.TheVariants.{SymbolsOutside}
use Rattle.elf_reader.specs.Fields.{section_header_bytes, symbol_bytes, e_shoff, e_shentsize}
use Rattle.elf_reader.specs.Fields.{e_shnum, section_header, symbol_entry}
use Rattle.crpd_base.specs.Outcome.{◌>>=◌, ensure}

-- ---- sections

-- the section header table
abbrev pub section_table : List ℕ → List SectionHeader
section_table file =
    map (λ i. section_header file (e_shoff file + section_header_bytes * i))
    (range_with_len 0 (e_shnum file))

-- the section headers; a file without a table has none
unfoldable pub section_headers : List ℕ → Result (List SectionHeader) ElfError
section_headers file =
    if e_shoff file == 0 || e_shnum file == 0 then Ok []
    else if e_shentsize file == section_header_bytes
    && nat_le (e_shoff file + section_header_bytes * e_shnum file) (length file)
    then Ok (section_table file)
    else Err SymbolsOutside

-- SHT_SYMTAB
abbrev pub is_symbol_section : SectionHeader → Bool
is_symbol_section s = s.sh_type == 2

-- SHT_STRTAB
abbrev pub is_string_section : SectionHeader → Bool
is_string_section s = s.sh_type == 3

-- the section is in a file of this length
abbrev pub is_inside : ℕ → SectionHeader → Bool
is_inside len s = nat_le (s.sh_offset + s.sh_size) len

-- the bytes of a section
abbrev pub contents : List ℕ → SectionHeader → List ℕ
contents file s = slice_range file s.sh_offset (s.sh_offset + s.sh_size)

-- ---- symbols

-- the byte 0
abbrev pub is_zero : ℕ → Bool
is_zero b = b == 0

-- the bytes up to the first zero byte, None if there is no zero byte or it comes first
unfoldable pub symbol_text : List ℕ → Option (List ℕ)
symbol_text bytes =
    option_and_then (λ n. if n == 0 then None else Some (take n bytes)) (position is_zero bytes)

-- an undefined symbol (SHN_UNDEF), or the name of a source file (STT_FILE)
abbrev pub is_passed_over : SymbolEntry → Bool
is_passed_over entry = entry.st_shndx == 0 || entry.st_info % 16 == 4

-- the symbol of an entry, whose name is in the string section
unfoldable pub symbol : List ℕ → SymbolEntry → Option Symbol
symbol strings entry =
    if is_passed_over entry then None
    else option_map (λ name. record { name = name; value = entry.st_value })
    (symbol_text (drop entry.st_name strings))

-- the complete entries of a symbol section
abbrev pub symbol_table : List ℕ → SectionHeader → List SymbolEntry
symbol_table file table =
    map (λ i. symbol_entry file (table.sh_offset + symbol_bytes * i))
    (range_with_len 0 (table.sh_size / symbol_bytes))

-- the bytes of the string section at a place of the section header table
unfoldable pub strings_at : List ℕ → Option SectionHeader → Result (List ℕ) ElfError
strings_at file None = Err SymbolsOutside
strings_at file (Some s) =
    if is_string_section s && is_inside (length file) s then Ok (contents file s)
    else Err SymbolsOutside

-- the symbols of a symbol section
unfoldable pub symbols_of : List ℕ → List SectionHeader → Option SectionHeader
    → Result (List Symbol) ElfError
symbols_of file sections None = Ok []
symbols_of file sections (Some table) = do
  _ ← ensure (table.sh_entsize == symbol_bytes && is_inside (length file) table) SymbolsOutside
  strings ← strings_at file (slice_get sections table.sh_link)
  Ok (filter_map (symbol strings) (symbol_table file table))

-- the symbols of the first symbol section
unfoldable pub symbols : List ℕ → Result (List Symbol) ElfError
symbols file = do
  sections ← section_headers file
  symbols_of file sections (find is_symbol_section sections)
