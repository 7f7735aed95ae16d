use Rattle.crpd_input.specs.Reading.{input_in}
use Rattle.crpd_input.specs.Shapes.{ShapedFrom, ShapedIn}
use Rattle.crpd_input.specs.Steps.{Exactly}
use Rattle.crpd_input.proofs.Asking.{asks_end, asks_stop}
use Rattle.crpd_input.proofs.Chain.{goes_on, stopped, stops_so}
use Rattle.crpd_input.proofs.shapes.load_renewed.Goals as goal

pub returns-clause-exact : goal.returns-clause-exact
returns-clause-exact g c = λ contents told.
    goes_on (Exactly (input_in contents c.args.name.now)) ShapedFrom c.in_ok-input.input
    c.renew_input.result (c.in_ok-input.ensures.exact contents told) c.renew_input.ensures.exact

pub returns-clause-taken : goal.returns-clause-taken
returns-clause-taken g c = c.renew_input.ensures.taken

pub returns-in_err-input-clause-exact : goal.returns-in_err-input-clause-exact
returns-in_err-input-clause-exact g c = λ contents told.
    let halt = c.in_err-input.field-0.0 in
    stops_so (ShapedIn contents c.args.name.now) c.from_residual.result halt
    c.from_residual.ensures.1
    (stopped (Exactly (input_in contents c.args.name.now)) ShapedFrom halt
    (c.in_err-input.ensures.exact contents told))

pub returns-clause-asks : goal.returns-clause-asks
returns-clause-asks g c = asks_end c.in_ok-input.input c.in_ok-input.ensures.asks c.renew_input.result

pub returns-in_err-input-clause-asks : goal.returns-in_err-input-clause-asks
returns-in_err-input-clause-asks g c =
    asks_stop c.in_err-input.field-0.0 _ c.in_err-input.ensures.asks c.from_residual.result
    c.from_residual.ensures.1
