-- The steps that read files: a set, the images of its tasks' files, its code, a certificate; and
-- why each stops.
use Rattle.std.specs.Prelude.{ℕ, List, Result, Ok}
use Rattle.std.specs.Fmt.{decimal}
use Rattle.crpd_base.specs.Tasks.{task_name}
use Rattle.crpd_base.specs.declared.data.Certificate.{Certificate}
use Rattle.crpd_base.specs.declared.data.Image.{Image}
use Rattle.crpd_base.specs.declared.data.TaskSet.{TaskSet}
use Rattle.crpd_base.specs.declared.data.TaskSpec.{TaskSpec}
use Rattle.set_reader.specs.Reading as set
use Rattle.set_reader.specs.declared.error.SetError.{SetError}
use Rattle.set_reader.specs.declared.error.SetError.TheVariants as set_error
use Rattle.elf_reader.specs.Reading as elf
use Rattle.elf_reader.specs.declared.error.ElfError.{ElfError}
use Rattle.elf_reader.specs.declared.error.ElfError.TheVariants as elf_error
use Rattle.code_map.specs.Reading as code
use Rattle.code_map.specs.Words.{Code}
use Rattle.code_map.specs.declared.error.MapError.{MapError}
use Rattle.code_map.specs.declared.error.MapError.TheVariants as map_error
use Rattle.cert_model.specs.Reading as certificate
use Rattle.cert_model.specs.declared.error.CertError.{CertError}
use Rattle.cert_model.specs.declared.error.CertError.TheVariants as certificate_error
use Rattle.task_shapes.specs.Inputs.{SetWithCode}
use Rattle.crpd_io.specs.Outside.{Contents}
use Rattle.crpd_base.specs.Texts.{hexadecimal}
use Rattle.crpd_input.specs.declared.cause.Cause.TheVariants as cause
use Rattle.crpd_input.specs.declared.halt.Halt.{Halt}
use Rattle.crpd_input.specs.declared.halt.Halt.TheVariants as halt
use Rattle.crpd_input.specs.Steps.{and_then, bytes_in, certificate_bytes, each, file_bytes}
use Rattle.crpd_input.specs.Steps.{or_refused, plain_refusal, refusal}

-- the stop of a set's file; out of memory is not a refusal, and reading never gives it (nor in the
-- tables below)
abbrev pub set_halt : List ℕ → SetError → Halt
set_halt file set_error.Memory = halt.Memory
set_halt file set_error.NotToml = plain_refusal cause.SetNotToml file
set_halt file (set_error.Missing key) = refusal cause.SetMissing file key
set_halt file (set_error.BadValue key) = refusal cause.SetBadValue file key
set_halt file (set_error.TooManyTasks count) = refusal cause.TooManyTasks file (decimal count)
set_halt file (set_error.SameName key) = refusal cause.SameName file key
set_halt file (set_error.DeadlineAfterPeriod key) = refusal cause.DeadlineAfterPeriod file key
set_halt file (set_error.UnknownKey key) = refusal cause.SetUnknownKey file key

-- the stop of an ELF file
abbrev pub elf_halt : List ℕ → ElfError → Halt
elf_halt file elf_error.Memory = halt.Memory
elf_halt file elf_error.Short = plain_refusal cause.Short file
elf_halt file elf_error.NotElf = plain_refusal cause.NotElf file
elf_halt file elf_error.NotElf32Little = plain_refusal cause.NotElf32Little file
elf_halt file elf_error.NotRiscV = plain_refusal cause.NotRiscV file
elf_halt file elf_error.NotExecutable = plain_refusal cause.NotExecutable file
elf_halt file (elf_error.NotStatic place) = refusal cause.NotStatic file (decimal place)
elf_halt file elf_error.HeaderOutside = plain_refusal cause.HeaderOutside file
elf_halt file (elf_error.SegmentOutside place) = refusal cause.SegmentOutside file (decimal place)
elf_halt file (elf_error.SegmentsOverlap place) = refusal cause.SegmentsOverlap file (decimal place)
elf_halt file elf_error.NoCode = plain_refusal cause.NoCode file
elf_halt file elf_error.SymbolsOutside = plain_refusal cause.SymbolsOutside file

-- the stop of the code of a set, for the set's file or for a task
abbrev pub map_halt : List ℕ → TaskSet → MapError → Halt
map_halt file set map_error.Memory = halt.Memory
map_halt file set (map_error.CodeConflict address) =
    refusal cause.CodeConflict file (hexadecimal address)
map_halt file set (map_error.UnknownSymbol task place) =
    refusal cause.UnknownSymbol (task_name set task) place
map_halt file set (map_error.EntryOutside task address) =
    refusal cause.EntryOutside (task_name set task) (hexadecimal address)

-- the stop of a certificate's file
abbrev pub certificate_halt : List ℕ → CertError → Halt
certificate_halt file certificate_error.Memory = halt.Memory
certificate_halt file certificate_error.NotJson = plain_refusal cause.NotJson file
certificate_halt file (certificate_error.Missing key) = refusal cause.CertificateMissing file key
certificate_halt file (certificate_error.BadValue key) = refusal cause.CertificateBadValue file key
certificate_halt file (certificate_error.TooLong count) =
    refusal cause.CertificateTooLong file (decimal count)
certificate_halt file (certificate_error.OtherVersion version) =
    refusal cause.OtherVersion file (decimal version)

-- ---- the steps

-- the set of a file
abbrev pub set_in : Contents → List ℕ → Result TaskSet Halt
set_in contents name =
    and_then (bytes_in file_bytes contents name)
    (λ bytes. or_refused (set_halt name) (set.reading bytes))

-- the image of an ELF file
abbrev pub image_in : Contents → List ℕ → Result Image Halt
image_in contents name =
    and_then (bytes_in file_bytes contents name)
    (λ bytes. or_refused (elf_halt name) (elf.reading bytes))

-- the images of the tasks' files, in the order of the tasks
abbrev pub images_in : Contents → List TaskSpec → Result (List Image) Halt
images_in contents tasks = each (λ (t : TaskSpec). image_in contents t.file) tasks

-- the code of a set that was read from a file
abbrev pub code_in : Contents → List ℕ → TaskSet → Result Code Halt
code_in contents name set =
    and_then (images_in contents set.tasks)
    (λ images. or_refused (map_halt name set) (code.code_of set images))

-- a set with its code
abbrev pub input_in : Contents → List ℕ → Result SetWithCode Halt
input_in contents name =
    and_then (set_in contents name)
    (λ set. and_then (code_in contents name set) (λ code. Ok (record { set = set; code = code })))

-- the certificate of a file
abbrev pub certificate_in : Contents → List ℕ → Result Certificate Halt
certificate_in contents name =
    and_then (bytes_in certificate_bytes contents name)
    (λ bytes. or_refused (certificate_halt name) (certificate.reading bytes))
