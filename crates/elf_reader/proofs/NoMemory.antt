-- The definition of reading an ELF file never runs out of memory; only the code can.
use Rattle.std.proofs.Common.{◌≡◌, ◌≢◌, ℕ, ◌+◌, ◌*◌, ◌==◌, ◌&&◌, ◌||◌, Bool, true, false, List, []}
use Rattle.std.proofs.Common.{length, take, position, slice_get, slice_index, nat_le, Option, Some}
use Rattle.std.proofs.Common.{None, Result, Ok, Err, if◌then◌else◌, find}
use Rattle.std.specs.List.{list_any}
use Rattle.std.specs.Str.{bytes_eq}
use Rattle.crpd_base.specs.Outcome.{◌>>=◌, ensure, nowhere}
use Rattle.elf_reader.specs.declared.entries.SectionHeader.{SectionHeader}
use Rattle.elf_reader.specs.declared.error.ElfError.{ElfError}
use Rattle.elf_reader.specs.declared.error.ElfError.TheVariants.{HeaderOutside, Memory, NoCode}
use Rattle.elf_reader.specs.declared.error.ElfError.TheVariants.{NotElf, NotElf32Little}
use Rattle.elf_reader.specs.declared.error.ElfError.TheVariants.{NotExecutable, NotRiscV, NotStatic}
use Rattle.elf_reader.specs.declared.error.ElfError.TheVariants.{SegmentOutside, SegmentsOverlap}
use Rattle.elf_reader.specs.declared.error.ElfError.TheVariants.{Short, SymbolsOutside}
use Rattle.elf_reader.specs.Fields.{e_machine, e_phentsize, e_phnum, e_phoff, e_shentsize, e_shnum}
use Rattle.elf_reader.specs.Fields.{e_shoff, e_type, file_header_bytes, program_header_bytes}
use Rattle.elf_reader.specs.Fields.{section_header_bytes, symbol_bytes}
use Rattle.elf_reader.specs.Reading.{file_header, magic, program_headers, reading}
use Rattle.elf_reader.specs.Segments.{first_shared, is_code, is_dynamic, is_outside}
use Rattle.elf_reader.specs.Symbols.{contents, is_inside, is_string_section, is_symbol_section}
use Rattle.elf_reader.specs.Symbols.{section_headers, section_table, strings_at, symbols}
use Rattle.elf_reader.specs.Symbols.{symbols_of}

-- a value, or a different error than running out of memory
abbrev IsFree : {A : Type 0} → Result A ElfError → Type 0
IsFree (Ok x) = Unit {0}
IsFree (Err e) = e ≢ Memory

never : {A : Type 0} (r : Result A ElfError) → IsFree r → r ≡ Err Memory → ⊥
never (Ok x) free is = cc
never (Err e) free is = free (let same : e ≡ Memory = cc in same)

bind_free : {A B : Type 0} (r : Result A ElfError) (f : A → Result B ElfError) → IsFree r
    → ((x : A) → IsFree (f x)) → IsFree (r >>= f)
bind_free (Ok x) f h later = later x
bind_free (Err e) f h later = h

ensure_free : (holds : Bool) (e : ElfError) → e ≢ Memory → IsFree (ensure holds e)
ensure_free true e free = tt
ensure_free false e free = free

if_free : {A : Type 0} (b : Bool) (r s : Result A ElfError) → IsFree r → IsFree s
    → IsFree (if b then r else s)
if_free true r s x y = x
if_free false r s x y = y

nowhere_free : (refusal : ℕ → ElfError) (o : Option ℕ) → ((i : ℕ) → refusal i ≢ Memory)
    → IsFree (nowhere refusal o)
nowhere_free refusal None free = tt
nowhere_free refusal (Some i) free = free i

-- after a condition
guard_free : {B : Type 0} (holds : Bool) (e : ElfError) (next : Unit {0} → Result B ElfError)
    → e ≢ Memory → IsFree (next tt) → IsFree (ensure holds e >>= next)
guard_free true e next free later = later
guard_free false e next free later = free

header_free : (file : List ℕ) → IsFree (file_header file)
unfolding file_header
header_free file =
    guard_free (nat_le file_header_bytes (length file)) Short _ (λ e. cc)
    (guard_free (bytes_eq (take 4 file) magic) NotElf _ (λ e. cc)
    (guard_free (slice_index file 4 == 1 && slice_index file 5 == 1 && slice_index file 6 == 1)
    NotElf32Little _ (λ e. cc)
    (guard_free (e_machine file == 243) NotRiscV _ (λ e. cc)
    (ensure_free (e_type file == 2) NotExecutable (λ e. cc)))))

headers_free : (file : List ℕ) → IsFree (program_headers file)
unfolding program_headers
headers_free file =
    guard_free
    (e_phnum file == 0 || e_phentsize file == program_header_bytes
    && nat_le (e_phoff file + program_header_bytes * e_phnum file) (length file))
    HeaderOutside _ (λ e. cc) tt

sections_free : (file : List ℕ) → IsFree (section_headers file)
unfolding section_headers
sections_free file =
    let table = section_table file in
    let fits = e_shentsize file == section_header_bytes
    && nat_le (e_shoff file + section_header_bytes * e_shnum file) (length file) in
    if_free (e_shoff file == 0 || e_shnum file == 0) (Ok [])
    (if fits then Ok table else Err SymbolsOutside) tt
    (if_free fits (Ok table) (Err SymbolsOutside) tt (λ e. cc))

strings_free : (file : List ℕ) (o : Option SectionHeader) → IsFree (strings_at file o)
unfolding strings_at
strings_free file None = λ e. cc
strings_free file (Some s) =
    if_free (is_string_section s && is_inside (length file) s) (Ok (contents file s))
    (Err SymbolsOutside) tt (λ e. cc)

symbols_of_free : (file : List ℕ) (sections : List SectionHeader) (o : Option SectionHeader)
    → IsFree (symbols_of file sections o)
unfolding symbols_of
symbols_of_free file sections None = tt
symbols_of_free file sections (Some table) =
    guard_free (table.sh_entsize == symbol_bytes && is_inside (length file) table)
    SymbolsOutside _ (λ e. cc)
    (bind_free (strings_at file (slice_get sections table.sh_link)) _
    (strings_free file (slice_get sections table.sh_link)) (λ _. tt))

symbols_free : (file : List ℕ) → IsFree (symbols file)
unfolding symbols
symbols_free file =
    bind_free (section_headers file) _ (sections_free file) (λ sections.
    symbols_of_free file sections (find is_symbol_section sections))

reading_free : (file : List ℕ) → IsFree (reading file)
unfolding reading
reading_free file =
    bind_free (file_header file) _ (header_free file) (λ _.
    bind_free (program_headers file) _ (headers_free file) (λ headers.
    bind_free (nowhere NotStatic (position is_dynamic headers)) _
    (nowhere_free NotStatic (position is_dynamic headers) (λ i e. cc)) (λ _.
    bind_free (nowhere SegmentOutside (position (is_outside (length file)) headers)) _
    (nowhere_free SegmentOutside (position (is_outside (length file)) headers) (λ i e. cc)) (λ _.
    bind_free (nowhere SegmentsOverlap (first_shared [] headers)) _
    (nowhere_free SegmentsOverlap (first_shared [] headers) (λ i e. cc)) (λ _.
    guard_free (list_any is_code headers) NoCode _ (λ e. cc)
    (bind_free (symbols file) _ (symbols_free file) (λ _. tt)))))))

pub reading_never : (file : List ℕ) → reading file ≡ Err Memory → ⊥
reading_never file = never (reading file) (reading_free file)
