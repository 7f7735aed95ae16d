use Rattle.std.proofs.Common.{Err}
use Rattle.crpd_input.specs.Reading.{input_in}
use Rattle.crpd_input.specs.Script.{script_in}
use Rattle.crpd_input.specs.Steps.{Exactly, Then}
use Rattle.crpd_input.proofs.Chain.{goes_on, stopped}
use Rattle.crpd_tool.specs.Simulate.{ReportOf, SimulateEnds}
use Rattle.crpd_input.proofs.Chain.{stops_so}
use Rattle.crpd_io.proofs.Logs.{earlier, later}
use Rattle.crpd_input.proofs.Stopping.{leaves_both, passed_on}
use Rattle.std.proofs.Common.{[], ◌∷◌}
use Rattle.crpd_input.proofs.Asking.{asks_less, asks_more}
use Rattle.crpd_tool.proofs.simulate.simulate.Goals as goal

pub returns-in_err-stated-clause-exact : goal.returns-in_err-stated-clause-exact
returns-in_err-stated-clause-exact g c = λ contents told.
    let input = c.in_ok-input.input in
    let halt = c.in_err-stated.field-0.0 in
    let one = c.in_ok-input.ensures.files.3 in
    let two = c.in_err-stated.ensures.files.3 in
    stops_so (SimulateEnds contents c.args.set.now c.args.script.now)
    c.from_residual-in_err-stated.result c.in_err-stated.field-0.0
    c.from_residual-in_err-stated.ensures.1
    (goes_on (Exactly (input_in contents c.args.set.now))
    (λ input. Then (Exactly (script_in contents c.args.script.now input.set)) (ReportOf input))
    input (Err halt) (c.in_ok-input.ensures.exact contents (earlier one two told))
    (stopped (Exactly (script_in contents c.args.script.now input.set)) (ReportOf input) halt
    (rw c.set.ensures.is
    at (c.in_err-stated.ensures.exact contents (later one two told)))))

pub returns-clause-exact : goal.returns-clause-exact
returns-clause-exact g c = λ contents told.
    let input = c.in_ok-input.input in
    let one = c.in_ok-input.ensures.files.3 in
    let two = c.in_ok-stated.ensures.files.3 in
    goes_on (Exactly (input_in contents c.args.set.now))
    (λ input. Then (Exactly (script_in contents c.args.script.now input.set)) (ReportOf input))
    input c.run_script.result (c.in_ok-input.ensures.exact contents (earlier one two told))
    (goes_on (Exactly (script_in contents c.args.script.now input.set)) (ReportOf input)
    c.in_ok-stated.stated c.run_script.result
    (rw c.set.ensures.is
    at (c.in_ok-stated.ensures.exact contents (later one two told)))
    c.run_script.ensures.exact)

pub returns-in_err-stated-clause-files : goal.returns-in_err-stated-clause-files
returns-in_err-stated-clause-files g c =
    leaves_both g.F.Files.contents g.F.Files.faults g.F.Files.log _ _ _ _ _ _
    c.in_ok-input.ensures.files c.in_err-stated.ensures.files
    (passed_on c.in_err-stated.field-0.0 c.from_residual-in_err-stated.result
    c.from_residual-in_err-stated.ensures.1)

pub returns-clause-files : goal.returns-clause-files
returns-clause-files g c =
    leaves_both g.F.Files.contents g.F.Files.faults g.F.Files.log _ _ _ _ _ _
    c.in_ok-input.ensures.files c.in_ok-stated.ensures.files
    (λ e. absurd (c.run_script.ensures.no_fault e))

pub returns-in_err-input-clause-exact : goal.returns-in_err-input-clause-exact
returns-in_err-input-clause-exact g c = λ contents told.
    let halt = c.in_err-input.field-0.0 in
    stops_so (SimulateEnds contents c.args.set.now c.args.script.now)
    c.from_residual.result halt c.from_residual.ensures.1
    (stopped (Exactly (input_in contents c.args.set.now))
    (λ input. Then (Exactly (script_in contents c.args.script.now input.set)) (ReportOf input)) halt
    (c.in_err-input.ensures.exact contents told))

pub returns-in_err-input-clause-asks : goal.returns-in_err-input-clause-asks
returns-in_err-input-clause-asks g c =
    asks_less c.in_err-input.field-0.0 _ (λ contents. c.args.script.now ∷ []) c.in_err-input.ensures.asks
    c.from_residual.result c.from_residual.ensures.1

pub returns-in_err-stated-clause-asks : goal.returns-in_err-stated-clause-asks
returns-in_err-stated-clause-asks g c =
    asks_more c.in_ok-input.ensures.files.3 c.in_err-stated.ensures.files.3 c.in_ok-input.input
    c.in_ok-input.ensures.asks c.in_err-stated.ensures.asked

pub returns-clause-asks : goal.returns-clause-asks
returns-clause-asks g c =
    asks_more c.in_ok-input.ensures.files.3 c.in_ok-stated.ensures.files.3 c.in_ok-input.input
    c.in_ok-input.ensures.asks c.in_ok-stated.ensures.asked
