use Rattle.delay_classic.specs.Demand.{classic_demands}
use Rattle.std.proofs.Common.{rules, sym}
use Rattle.crpd_input.specs.Shapes.{ShapedIn}
use Rattle.crpd_input.proofs.Chain.{goes_on, stopped, stops_so}
use Rattle.crpd_tool.specs.Classic.{ClassicOf, ClassicEnds}
use Rattle.crpd_tool.proofs.Making.{analysis_meant}
use Rattle.crpd_input.proofs.Asking.{asks_end, asks_stop}
use Rattle.crpd_tool.proofs.classic.classic.Goals as goal

pub classic-made-requires-clause-tasks : goal.classic-made-requires-clause-tasks
classic-made-requires-clause-tasks g c =
    rw (c.set.ensures.is, c.graphs.ensures, c.nests.ensures) c.shaped_law.ensures.shown

pub returns-clause-exact : goal.returns-clause-exact
returns-clause-exact g c = λ contents told.
    let set = c.args.set.now in
    let shaped = c.in_ok-shaped.shaped in
    goes_on (ShapedIn contents set) (ClassicOf set) shaped c.made_ending.result
    (c.in_ok-shaped.ensures.exact contents told)
    (analysis_meant classic_demands set shaped c.classic-made.result c.made_ending.result
    (rw (sym c.set.ensures.is, sym c.graphs.ensures, sym c.nests.ensures)
    c.classic-made.ensures.exact)
    c.classic-made.ensures.ranges (rw c.set-2.ensures.is at c.made_ending.ensures.exact))

pub returns-clause-files : goal.returns-clause-files
returns-clause-files g c = search rules

pub returns-in_err-shaped-clause-exact : goal.returns-in_err-shaped-clause-exact
returns-in_err-shaped-clause-exact g c = λ contents told.
    let halt = c.in_err-shaped.field-0.0 in
    stops_so (ClassicEnds contents c.args.set.now)
    c.from_residual.result halt c.from_residual.ensures.1
    (stopped (ShapedIn contents c.args.set.now)
    (ClassicOf c.args.set.now) halt
    (c.in_err-shaped.ensures.exact contents told))

pub returns-clause-asks : goal.returns-clause-asks
returns-clause-asks g c = asks_end c.in_ok-shaped.shaped c.in_ok-shaped.ensures.asks _

pub returns-in_err-shaped-clause-asks : goal.returns-in_err-shaped-clause-asks
returns-in_err-shaped-clause-asks g c =
    asks_stop c.in_err-shaped.field-0.0 _ c.in_err-shaped.ensures.asks c.from_residual.result
    c.from_residual.ensures.1
