use Rattle.std.proofs.Common.{◌≡◌, ℕ, List, Some, Ok, Err, Result, Vec, IfOk, refl, subst}
use Rattle.crpd_io.specs.FilesInMemory.{file_named}
use Rattle.crpd_io.specs.Outside.{Contents}
use Rattle.crpd_input.specs.Steps.{MeansBy}
use Rattle.crpd_input.specs.declared.halt.Halt.{Halt}
use Rattle.crpd_tool.specs.Commands.{Command, command_of}
use Rattle.crpd_tool.specs.Output.{Ends, IsOut, IsWhole, bad_words, ending_output}
use Rattle.crpd_tool.specs.declared.answer.Answer.{Answer}
use Rattle.crpd_tool.specs.declared.status.Status.{Status}
use Rattle.crpd_tool.proofs.Finish.{meant_output, out-none, output_as}
use Rattle.crpd_io.proofs.Logs.{stated_agrees}
use Rattle.crpd_tool.proofs.in_memory.run_in_memory.Goals as goal

-- the status and the text of an end are an output
ended : {Y E : Type 0} (words : List (List ℕ)) (contents : Contents) (command : Command)
    (ending : Result Answer Halt) (result : Result (Status × Vec ℕ Y) E)
    → Some command ≡ command_of words → MeansBy (Ends command contents) ending
    → IfOk result (λ found. found.0 ≡ (ending_output ending).status)
    → IfOk result (λ found. found.1.items ≡ (ending_output ending).text)
    → IfOk result (λ found. IsWhole found.0)
    → IfOk result (λ found.
    IsOut words contents (record { text = found.1.items; status = found.0 }))
ended words contents command ending (Ok found) is meant status text whole =
    output_as words contents (ending_output ending)
    (record { text = found.1.items; status = found.0 }) status text
    (meant_output words contents command is ending meant (subst IsWhole status whole))
ended words contents command ending (Err e) is meant status text whole = tt

pub returns-in_default-clause-exact : goal.returns-in_default-clause-exact
returns-in_default-clause-exact c =
    output_as _ _ bad_words _ refl c.in_ok-bad_words.ensures (out-none _ _ c.in_default.ensures)

pub returns-clause-exact : goal.returns-clause-exact
returns-clause-exact c =
    ended _ (file_named c.args.files.now.files.items) _ c.perform.result c.whole_output.result
    c.in-Some.ensures (c.perform.ensures.exact (file_named c.args.files.now.files.items)
    (stated_agrees c.perform.ensures.files.3 (file_named c.args.files.now.files.items) refl))
    c.whole_output.ensures.status c.whole_output.ensures.text c.whole_output.ensures.whole
