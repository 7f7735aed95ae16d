-- The fields of an ELF32 file, with the names of the ELF specification. Numbers are little-endian.
use Rattle.std.specs.Prelude.{ℕ, ◌+◌, List, drop, slice_index}
use Rattle.byteorder.specs.Endian.{little_number}
use Rattle.elf_reader.specs.declared.entries.ProgramHeader.{ProgramHeader}
use Rattle.elf_reader.specs.declared.entries.SectionHeader.{SectionHeader}
use Rattle.elf_reader.specs.declared.entries.SymbolEntry.{SymbolEntry}

-- the number in the two bytes at a place
unfoldable pub file_half : List ℕ → ℕ → ℕ
file_half file place = little_number 2 (drop place file)

-- the number in the four bytes at a place
unfoldable pub file_word : List ℕ → ℕ → ℕ
file_word file place = little_number 4 (drop place file)

-- the bytes of the file's header
abbrev pub file_header_bytes : ℕ
file_header_bytes = 52

-- the bytes of a program header
abbrev pub program_header_bytes : ℕ
program_header_bytes = 32

-- the bytes of a section header
abbrev pub section_header_bytes : ℕ
section_header_bytes = 40

-- the bytes of an entry of the symbol table
abbrev pub symbol_bytes : ℕ
symbol_bytes = 16

-- ---- the file's header

-- the file's type, 2 for an executable (ET_EXEC)
abbrev pub e_type : List ℕ → ℕ
e_type file = file_half file 16

-- the processor, 243 for RISC-V (EM_RISCV)
abbrev pub e_machine : List ℕ → ℕ
e_machine file = file_half file 18

-- the address at which the program starts
abbrev pub e_entry : List ℕ → ℕ
e_entry file = file_word file 24

-- where the program header table begins
abbrev pub e_phoff : List ℕ → ℕ
e_phoff file = file_word file 28

-- where the section header table begins, 0 without one
abbrev pub e_shoff : List ℕ → ℕ
e_shoff file = file_word file 32

-- the bytes of a program header
abbrev pub e_phentsize : List ℕ → ℕ
e_phentsize file = file_half file 42

-- how many program headers there are
abbrev pub e_phnum : List ℕ → ℕ
e_phnum file = file_half file 44

-- the bytes of a section header
abbrev pub e_shentsize : List ℕ → ℕ
e_shentsize file = file_half file 46

-- how many section headers there are
abbrev pub e_shnum : List ℕ → ℕ
e_shnum file = file_half file 48

-- ---- the entries of the tables, at a byte offset of the file

-- the offset, address and sizes of a segment; p_paddr and p_align are not read
abbrev pub program_header : List ℕ → ℕ → ProgramHeader
program_header file place = record {
  p_type = file_word file place;
  p_offset = file_word file (place + 4);
  p_vaddr = file_word file (place + 8);
  p_filesz = file_word file (place + 16);
  p_memsz = file_word file (place + 20);
  p_flags = file_word file (place + 24);
}

-- a section's offset and size in the file, its linked section and the size of its entries
abbrev pub section_header : List ℕ → ℕ → SectionHeader
section_header file place = record {
  sh_type = file_word file (place + 4);
  sh_offset = file_word file (place + 16);
  sh_size = file_word file (place + 20);
  sh_link = file_word file (place + 24);
  sh_entsize = file_word file (place + 36);
}

-- the name's offset in the string section, the value, type and section; st_size and st_other are
-- not read
abbrev pub symbol_entry : List ℕ → ℕ → SymbolEntry
symbol_entry file place = record {
  st_name = file_word file place;
  st_value = file_word file (place + 4);
  st_info = slice_index file (place + 12);
  st_shndx = file_half file (place + 14);
}
