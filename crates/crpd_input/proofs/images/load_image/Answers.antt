use Rattle.std.proofs.Common.{◌∙◌, ℕ, List, Ok, ap, sym, refl}
use Rattle.elf_reader.specs.Reading.{reading}
use Rattle.elf_reader.specs.declared.error.ElfError.TheVariants.{Memory}
use Rattle.crpd_input.specs.Reading.{elf_halt}
use Rattle.crpd_input.specs.Steps.{bytes_in, file_bytes, or_refused}
use Rattle.crpd_input.proofs.Readers.{read, refused, no_fault}
use Rattle.crpd_input.proofs.Stopping.{ends_first}
use Rattle.crpd_input.proofs.images.load_image.Goals as goal

pub returns-in-Ok-clause-exact : goal.returns-in-Ok-clause-exact
returns-in-Ok-clause-exact g c = λ contents told.
    read (elf_halt c.args.name.now) reading (bytes_in file_bytes contents c.args.name.now)
    c.as_slice.result.now c.in-Ok.image
    (c.in_ok-bytes.ensures.exact contents told ∙ ap (λ (bs : List ℕ). Ok bs)
    (sym c.as_slice.ensures))
    c.in-Ok.ensures.is

pub returns-clause-exact : goal.returns-clause-exact
returns-clause-exact g c = λ contents told.
    refused (elf_halt c.args.name.now) reading (bytes_in file_bytes contents c.args.name.now)
    c.as_slice.result.now Memory c.in-Err.error c.elf_halt.result
    (c.in_ok-bytes.ensures.exact contents told ∙ ap (λ (bs : List ℕ). Ok bs)
    (sym c.as_slice.ensures))
    refl c.in-Err.ensures.is c.elf_halt.ensures

pub returns-clause-files : goal.returns-clause-files
returns-clause-files g c = (
  c.in_ok-bytes.ensures.files.0,
  c.in_ok-bytes.ensures.files.1,
  λ e. absurd (no_fault (elf_halt c.args.name.now c.in-Err.error) c.elf_halt.result c.elf_halt.ensures e),
  c.in_ok-bytes.ensures.files.3,
)

pub returns-in_err-bytes-clause-exact : goal.returns-in_err-bytes-clause-exact
returns-in_err-bytes-clause-exact g c = λ contents told.
    ends_first (bytes_in file_bytes contents c.args.name.now)
    (λ bytes. or_refused (elf_halt c.args.name.now) (reading bytes))
    c.in_err-bytes.field-0.0 c.from_residual.result c.from_residual.ensures.1
    (c.in_err-bytes.ensures.exact contents told)
