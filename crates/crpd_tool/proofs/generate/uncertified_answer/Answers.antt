use Rattle.std.proofs.Common.{ℕ, List, Result, ap}
use Rattle.crpd_report.specs.Generate.{made_line}
use Rattle.crpd_input.specs.Steps.{Exactly, StopsBy}
use Rattle.crpd_input.specs.declared.halt.Halt.{Halt}
use Rattle.crpd_input.specs.declared.halt.Halt.TheVariants.{Refused, Memory, Fault}
use Rattle.crpd_tool.specs.Analyze.{without_certificate}
use Rattle.crpd_tool.specs.Generate.{answer_behind_line, made_name, node_count, without_made}
use Rattle.crpd_tool.specs.declared.answer.Answer.{Answer}
use Rattle.crpd_input.proofs.Chain.{stops_so}
use Rattle.crpd_tool.proofs.generate.uncertified_answer.Goals as goal

-- a stop has no line before it
behind_stop : (line : List ℕ) (meant : Result Answer Halt) (halt : Halt)
    → StopsBy (Exactly meant) halt → StopsBy (Exactly (answer_behind_line line meant)) halt
behind_stop line meant (Refused r) is = ap (answer_behind_line line) is
behind_stop line meant Memory is = tt
behind_stop line meant Fault is = tt

pub returns-in_err-ending-clause-exact : goal.returns-in_err-ending-clause-exact
returns-in_err-ending-clause-exact c =
    let n = c.args.number in
    let shaped = c.args.shaped.now in
    let error = c.args.error in
    stops_so (Exactly (without_made n shaped error)) c.from_residual.result
    c.in_err-ending.field-0.0 c.from_residual.ensures.1
    (behind_stop (made_line n (node_count shaped.graphs))
    (without_certificate made_name shaped.input.set error) c.in_err-ending.field-0.0
    (rw c.set.ensures.is at c.in_err-ending.ensures.exact))
