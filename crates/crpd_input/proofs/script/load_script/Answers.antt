use Rattle.std.proofs.Common.{◌∙◌, ℕ, List, Ok, ap, sym, refl}
use Rattle.script_reader.specs.Reading.{reading}
use Rattle.script_reader.specs.declared.error.ScriptError.TheVariants.{Memory}
use Rattle.crpd_input.specs.Script.{script_halt}
use Rattle.crpd_input.specs.Steps.{bytes_in, file_bytes, or_refused}
use Rattle.crpd_input.proofs.Readers.{read, refused, no_fault}
use Rattle.crpd_input.proofs.Stopping.{ends_first}
use Rattle.crpd_input.proofs.script.load_script.Goals as goal

pub returns-in-Ok-clause-exact : goal.returns-in-Ok-clause-exact
returns-in-Ok-clause-exact g c = λ contents told.
    read (script_halt c.args.name.now) (λ bs. reading bs c.args.set.now)
    (bytes_in file_bytes contents c.args.name.now)
    c.as_slice.result.now c.in-Ok.script
    (c.in_ok-bytes.ensures.exact contents told ∙ ap (λ (bs : List ℕ). Ok bs)
    (sym c.as_slice.ensures))
    c.in-Ok.ensures.exact

pub returns-clause-exact : goal.returns-clause-exact
returns-clause-exact g c = λ contents told.
    refused (script_halt c.args.name.now) (λ bs. reading bs c.args.set.now)
    (bytes_in file_bytes contents c.args.name.now)
    c.as_slice.result.now Memory c.in-Err.error c.script_halt.result
    (c.in_ok-bytes.ensures.exact contents told ∙ ap (λ (bs : List ℕ). Ok bs)
    (sym c.as_slice.ensures))
    refl c.in-Err.ensures.exact c.script_halt.ensures

pub returns-clause-files : goal.returns-clause-files
returns-clause-files g c = (
  c.in_ok-bytes.ensures.files.0,
  c.in_ok-bytes.ensures.files.1,
  λ e. absurd (no_fault (script_halt c.args.name.now c.in-Err.error) c.script_halt.result c.script_halt.ensures e),
  c.in_ok-bytes.ensures.files.3,
)

pub returns-in_err-bytes-clause-exact : goal.returns-in_err-bytes-clause-exact
returns-in_err-bytes-clause-exact g c = λ contents told.
    ends_first (bytes_in file_bytes contents c.args.name.now)
    (λ bytes. or_refused (script_halt c.args.name.now) (reading bytes c.args.set.now))
    c.in_err-bytes.field-0.0 c.from_residual.result c.from_residual.ensures.1
    (c.in_err-bytes.ensures.exact contents told)
