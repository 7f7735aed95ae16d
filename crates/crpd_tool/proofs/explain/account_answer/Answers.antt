use Rattle.std.proofs.Common.{◌∙◌, ℕ, ap, refl, Ok}
use Rattle.crpd_report.specs.Simulate.{is_legal, run_line}
use Rattle.crpd_report.proofs.Legality.{legal_decides}
use Rattle.loop_regions.specs.TaskGraphs.{nest_at}
use Rattle.loop_regions.specs.CodeNest.{nest_of}
use Rattle.loop_regions.specs.Nest.{Nest}
use Rattle.crpd_tool.specs.Simulate.{IsRunLine, run_of}
use Rattle.crpd_tool.specs.declared.answer.Outcome.TheVariants.{Done}
use Rattle.crpd_tool.proofs.Explaining.{graphs_met, tasks_met, windows_met}
use Rattle.crpd_tool.proofs.explain.account_answer.Goals as goal

pub account-requires-clause-graphs : goal.account-requires-clause-graphs
account-requires-clause-graphs c =
    rw (c.code.ensures, c.input.ensures, c.set-set.ensures.is, c.graphs.ensures)
    (graphs_met c.args.shaped.now c.shaped_law.ensures.graphs)

pub account-requires-clause-met : goal.account-requires-clause-met
account-requires-clause-met c =
    rw (c.set-set.ensures.is, c.graphs.ensures)
    (tasks_met c.args.shaped.now c.args.certificate.now c.requires.judged c.requires.ranges)

pub explain_text-requires-clause-certificate : goal.explain_text-requires-clause-certificate
explain_text-requires-clause-certificate c =
    rw c.set-set.ensures.is
    (windows_met c.args.shaped.now c.args.certificate.now c.requires.judged
    c.shaped_law.ensures.input.ranges)

pub returns-clause-exact : goal.returns-clause-exact
returns-clause-exact c =
    let shaped = c.args.shaped.now in
    let input = shaped.input in
    let script = c.args.script.now in
    let account = c.in_ok-account.account in
    let nests : ℕ → Nest = λ i. nest_of (nest_at shaped.nests i) in
    let is = rw (c.code.ensures, c.input.ensures, c.set-set.ensures.is, c.graphs.ensures)
    at (c.in_ok-account.ensures.is nests) in
    let legal = is_legal input.set script.jobs in
    let line : IsRunLine input.set script (run_of input script) (run_line legal account.kept) =
    record {
      legal = legal;
      kept = account.kept;
      legal_so = legal_decides input.set script.jobs;
      kept_so = is.kept;
      line_is = refl;
    } in (
      account,
      run_line legal account.kept,
      is,
      line,
      ap (λ t. Ok (record { text = t; outcome = Done }))
          (c.new.ensures ∙ rw c.set-set.ensures.is at c.in_ok-text.ensures),
    )
