-- The script of a file, for a set.
use Rattle.std.specs.Prelude.{ℕ, List, Result}
use Rattle.crpd_base.specs.declared.data.Script.{Script}
use Rattle.crpd_base.specs.declared.data.TaskSet.{TaskSet}
use Rattle.script_reader.specs.Reading as script
use Rattle.script_reader.specs.declared.error.ScriptError.{ScriptError}
use Rattle.script_reader.specs.declared.error.ScriptError.TheVariants as script_error
use Rattle.crpd_io.specs.Outside.{Contents}
use Rattle.crpd_input.specs.declared.cause.Cause.TheVariants as cause
use Rattle.crpd_input.specs.declared.halt.Halt.{Halt}
use Rattle.crpd_input.specs.declared.halt.Halt.TheVariants as halt
use Rattle.crpd_input.specs.Steps.{and_then, bytes_in, file_bytes, or_refused, plain_refusal}
use Rattle.crpd_input.specs.Steps.{refusal}

-- the stop of a script's file; out of memory is not a refusal, and reading never gives it
abbrev pub script_halt : List ℕ → ScriptError → Halt
script_halt file script_error.Memory = halt.Memory
script_halt file script_error.NotToml = plain_refusal cause.ScriptNotToml file
script_halt file (script_error.Missing key) = refusal cause.ScriptMissing file key
script_halt file (script_error.BadValue key) = refusal cause.ScriptBadValue file key
script_halt file (script_error.UnknownTask key) = refusal cause.UnknownTask file key
script_halt file (script_error.TooLong key) = refusal cause.ScriptTooLong file key
script_halt file (script_error.UnknownKey key) = refusal cause.ScriptUnknownKey file key

-- the script of a file, for a set
abbrev pub script_in : Contents → List ℕ → TaskSet → Result Script Halt
script_in contents name set =
    and_then (bytes_in file_bytes contents name)
    (λ bytes. or_refused (script_halt name) (script.reading bytes set))
