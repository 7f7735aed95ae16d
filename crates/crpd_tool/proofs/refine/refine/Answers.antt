use Rattle.crpd_input.specs.Shapes.{ShapedIn}
use Rattle.crpd_input.proofs.Chain.{goes_on, stopped, stops_so}
use Rattle.crpd_tool.specs.Refine.{RefinedOf, RefineEnds}
use Rattle.crpd_input.proofs.Asking.{asks_end, asks_stop}
use Rattle.crpd_tool.proofs.refine.refine.Goals as goal

pub returns-clause-exact : goal.returns-clause-exact
returns-clause-exact g c = λ contents told.
    goes_on (ShapedIn contents c.args.file.now) RefinedOf c.in_ok-shaped.shaped
    c.refined_ending.result (c.in_ok-shaped.ensures.exact contents told)
    c.refined_ending.ensures.exact

pub returns-in_err-shaped-clause-exact : goal.returns-in_err-shaped-clause-exact
returns-in_err-shaped-clause-exact g c = λ contents told.
    let halt = c.in_err-shaped.field-0.0 in
    stops_so (RefineEnds contents c.args.file.now)
    c.from_residual.result halt c.from_residual.ensures.1
    (stopped (ShapedIn contents c.args.file.now)
    (RefinedOf) halt
    (c.in_err-shaped.ensures.exact contents told))

pub returns-clause-asks : goal.returns-clause-asks
returns-clause-asks g c = asks_end c.in_ok-shaped.shaped c.in_ok-shaped.ensures.asks _

pub returns-in_err-shaped-clause-asks : goal.returns-in_err-shaped-clause-asks
returns-in_err-shaped-clause-asks g c =
    asks_stop c.in_err-shaped.field-0.0 _ c.in_err-shaped.ensures.asks c.from_residual.result
    c.from_residual.ensures.1
