use Rattle.delay_count.specs.Demand.{demand}
use Rattle.std.proofs.Common.{sym}
use Rattle.crpd_input.specs.Shapes.{ShapedIn}
use Rattle.crpd_input.proofs.Chain.{goes_on, stopped, stops_so}
use Rattle.crpd_tool.specs.Analyze.{AnalysisOf, AnalyzeEnds}
use Rattle.crpd_tool.proofs.Making.{analysis_meant}
use Rattle.crpd_input.proofs.Asking.{asks_end, asks_stop}
use Rattle.crpd_tool.proofs.analyze.analyze.Goals as goal

pub certify-made-requires-clause-tasks : goal.certify-made-requires-clause-tasks
certify-made-requires-clause-tasks g c =
    rw (c.set.ensures.is, c.graphs.ensures, c.nests.ensures) c.shaped_law.ensures.shown

pub returns-clause-exact : goal.returns-clause-exact
returns-clause-exact g c = λ contents told.
    let set = c.args.set.now in
    let shaped = c.in_ok-shaped.shaped in
    goes_on (ShapedIn contents set) (AnalysisOf set) shaped c.made_ending.result
    (c.in_ok-shaped.ensures.exact contents told)
    (analysis_meant demand set shaped c.certify-made.result c.made_ending.result
    (rw (sym c.set.ensures.is, sym c.graphs.ensures, sym c.nests.ensures)
    c.certify-made.ensures.exact)
    c.certify-made.ensures.ranges (rw c.set-2.ensures.is at c.made_ending.ensures.exact))

pub returns-in_err-shaped-clause-exact : goal.returns-in_err-shaped-clause-exact
returns-in_err-shaped-clause-exact g c = λ contents told.
    let halt = c.in_err-shaped.field-0.0 in
    stops_so (AnalyzeEnds contents c.args.set.now)
    c.from_residual.result halt c.from_residual.ensures.1
    (stopped (ShapedIn contents c.args.set.now)
    (AnalysisOf c.args.set.now) halt
    (c.in_err-shaped.ensures.exact contents told))

pub returns-clause-asks : goal.returns-clause-asks
returns-clause-asks g c = asks_end c.in_ok-shaped.shaped c.in_ok-shaped.ensures.asks _

pub returns-in_err-shaped-clause-asks : goal.returns-in_err-shaped-clause-asks
returns-in_err-shaped-clause-asks g c =
    asks_stop c.in_err-shaped.field-0.0 _ c.in_err-shaped.ensures.asks c.from_residual.result
    c.from_residual.ensures.1
