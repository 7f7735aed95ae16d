use Rattle.std.proofs.Common.{◌≡◌, ◌∙◌, Err, Result, ap, refl, sym}
use Rattle.crpd_input.specs.Steps.{Exactly, IsRefusal, StopsBy, refusal}
use Rattle.crpd_input.specs.declared.cause.Cause.TheVariants.{NoSuchTask}
use Rattle.crpd_input.specs.declared.halt.Halt.{Halt}
use Rattle.crpd_input.specs.declared.halt.Halt.TheVariants.{Refused, Memory, Fault}
use Rattle.crpd_tool.specs.List.{list_from_set}
use Rattle.crpd_tool.specs.declared.answer.Answer.{Answer}
use Rattle.std.proofs.Common.{Ok, rules, arith}
use Rattle.crpd_io.proofs.Logs.{adds_none}
use Rattle.crpd_input.specs.Reading.{code_in}
use Rattle.crpd_input.proofs.Chain.{stops_so}
use Rattle.crpd_input.proofs.Stopping.{stops_first}
use Rattle.crpd_tool.specs.List.{list_answer}
use Rattle.code_map.specs.Words.{Code}
use Rattle.crpd_input.specs.Asking.{task_files}
use Rattle.crpd_input.proofs.Asking.{asked_none, asks_end, asks_some, asks_stop}
use Rattle.crpd_tool.proofs.list.list_task.Goals as goal

-- a refusal, or out of memory, instead of this stop
refused : (meant : Result Answer Halt) (stop halt : Halt) → meant ≡ Err stop → IsRefusal stop halt
    → StopsBy (Exactly meant) halt
refused meant stop (Refused refusal) is here = is ∙ ap (λ (h : Halt). Err h) (sym here)
refused meant stop Memory is here = tt
refused meant stop Fault is here = absurd here

pub returns-in_default-clause-exact : goal.returns-in_default-clause-exact
returns-in_default-clause-exact g c = λ contents told.
    let file = c.args.file.now in
    let name = c.args.name.now in
    let stop : list_from_set contents file name c.args.set.now
    ≡ Err (refusal NoSuchTask file name) = rw (sym c.in_default.ensures.is) refl in
    refused (list_from_set contents file name c.args.set.now) _ c.refuse_name.result stop
    c.refuse_name.ensures

pub returns-clause-exact : goal.returns-clause-exact
returns-clause-exact g c = λ contents told.
    rw (sym c.in-Some.ensures.is, c.in_ok-code.ensures.exact contents told)
    c.list_words.ensures.exact

pub returns-in_err-code-clause-exact : goal.returns-in_err-code-clause-exact
returns-in_err-code-clause-exact g c = λ contents told.
    let file = c.args.file.now in
    let name = c.args.name.now in
    let set = c.args.set.now in
    let halt = c.in_err-code.field-0.0 in
    stops_so (Exactly (list_from_set contents file name set)) c.from_residual.result halt
    c.from_residual.ensures.1
    (rw (sym c.in-Some.ensures.is)
    (stops_first (code_in contents file set)
    (λ (code : Code). Ok (list_answer code c.in-Some.task)) halt
    (c.in_err-code.ensures.exact contents told)))

pub returns-in_default-clause-files : goal.returns-in_default-clause-files
returns-in_default-clause-files g c = (
  refl,
  omega arith,
  search rules,
  adds_none _ _ _ refl,
)

pub returns-in_default-clause-asks : goal.returns-in_default-clause-asks
returns-in_default-clause-asks g c =
    asks_some (asked_none (g.F.Files.log c.args.files.now)) (λ contents. task_files c.args.set.now)
    (λ contents. task_files c.args.set.now) (λ (h : Halt). Unit {0}) _ tt (λ contents since. refl)

pub returns-in_err-code-clause-asks : goal.returns-in_err-code-clause-asks
returns-in_err-code-clause-asks g c =
    asks_stop c.in_err-code.field-0.0 _ c.in_err-code.ensures.asks c.from_residual.result
    c.from_residual.ensures.1

pub returns-clause-asks : goal.returns-clause-asks
returns-clause-asks g c = asks_end c.in_ok-code.code c.in_ok-code.ensures.asks _
