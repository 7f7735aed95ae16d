-- The ends of commands that make a certificate: what only contracts inside the crate cite.
use Rattle.std.specs.Prelude.{ℕ, List, Result, Ok, Err}
use Rattle.crpd_base.specs.declared.data.Certificate.{Certificate}
use Rattle.crpd_base.specs.declared.data.TaskSet.{TaskSet}
use Rattle.cert_build.specs.declared.error.BuildError.{BuildError}
use Rattle.crpd_input.specs.declared.halt.Halt.{Halt}
use Rattle.crpd_tool.specs.Analyze.{certificate_answer, without_certificate}
use Rattle.crpd_tool.specs.declared.answer.Answer.{Answer}

-- the answer with a certificate of the set of a file, or the end without one
abbrev pub made_ending : List ℕ → TaskSet → Result Certificate BuildError → Result Answer Halt
made_ending file set (Ok c) = Ok (certificate_answer c)
made_ending file set (Err e) = without_certificate file set e
