use Rattle.std.proofs.Common.{◌≡◌, ℕ, List, Result, Ok, Err}
use Rattle.crpd_base.specs.declared.data.Certificate.{Certificate}
use Rattle.crpd_base.specs.declared.data.Script.{Script}
use Rattle.crpd_io.specs.Outside.{Contents}
use Rattle.crpd_input.specs.Reading.{certificate_in}
use Rattle.crpd_input.specs.Shapes.{ShapedIn}
use Rattle.crpd_input.specs.Script.{script_in}
use Rattle.crpd_input.specs.Steps.{Exactly, MeansBy}
use Rattle.crpd_input.specs.declared.halt.Halt.{Halt}
use Rattle.crpd_input.proofs.Chain.{goes_on, stopped}
use Rattle.crpd_tool.specs.Explain.{ExplainEnds, ExplainFromCertificate, ExplainFromShapes}
use Rattle.crpd_tool.specs.Explain.{ExplanationOf}
use Rattle.crpd_tool.specs.declared.answer.Answer.{Answer}
use Rattle.task_shapes.specs.Shapes.{SetWithShapes}
use Rattle.crpd_input.proofs.Chain.{stops_so}
use Rattle.crpd_io.proofs.Logs.{adds_both, earlier, later}
use Rattle.crpd_input.proofs.Stopping.{leaves_both, passed_on}
use Rattle.std.proofs.Common.{[], ◌∷◌}
use Rattle.crpd_input.specs.declared.halt.Halt.{Halt}
use Rattle.crpd_input.proofs.Asking.{asks_less, asks_more}
use Rattle.crpd_tool.proofs.explain.explain.Goals as goal

-- the steps up to the certificate
module _ (contents : Contents) (set certificate script : List ℕ) (shaped : SetWithShapes)
    (stated : Certificate) (is : ShapedIn contents set (Ok shaped))
    (stated_is : certificate_in contents certificate ≡ Ok stated) where
  from_certificate : (r : Result Answer Halt)
      → MeansBy (ExplainFromCertificate contents script shaped stated) r
      → MeansBy (ExplainEnds contents set certificate script) r
  from_certificate r later =
      goes_on (ShapedIn contents set) (ExplainFromShapes contents certificate script) shaped r
      is
      (goes_on (Exactly (certificate_in contents certificate))
      (ExplainFromCertificate contents script shaped) stated r stated_is later)

  -- the steps up to the script
  from_script : (given : Script) (r : Result Answer Halt)
      → script_in contents script shaped.input.set ≡ Ok given
      → MeansBy (ExplanationOf shaped stated given) r
      → MeansBy (ExplainEnds contents set certificate script) r
  from_script given r given_is later =
      from_certificate r
      (goes_on (Exactly (script_in contents script shaped.input.set))
      (ExplanationOf shaped stated) given r given_is later)

pub returns-in_err-shaped-clause-exact : goal.returns-in_err-shaped-clause-exact
returns-in_err-shaped-clause-exact g c = λ contents told.
    stops_so (ExplainEnds contents c.args.set.now c.args.certificate.now c.args.script.now)
    c.from_residual.result c.in_err-shaped.field-0.0 c.from_residual.ensures.1
    (stopped (ShapedIn contents c.args.set.now)
    (ExplainFromShapes contents c.args.certificate.now c.args.script.now) c.in_err-shaped.field-0.0
    (c.in_err-shaped.ensures.exact contents told))

pub returns-in_err-stated-clause-exact : goal.returns-in_err-stated-clause-exact
returns-in_err-stated-clause-exact g c = λ contents told.
    let shaped = c.in_ok-shaped.shaped in
    let halt = c.in_err-stated.field-0.0 in
    let one = c.in_ok-shaped.ensures.files.3 in
    let two = c.in_err-stated.ensures.files.3 in
    stops_so (ExplainEnds contents c.args.set.now c.args.certificate.now c.args.script.now)
    c.from_residual-in_err-stated.result c.in_err-stated.field-0.0
    c.from_residual-in_err-stated.ensures.1
    (goes_on (ShapedIn contents c.args.set.now)
    (ExplainFromShapes contents c.args.certificate.now c.args.script.now) shaped (Err halt)
    (c.in_ok-shaped.ensures.exact contents (earlier one two told))
    (stopped (Exactly (certificate_in contents c.args.certificate.now))
    (ExplainFromCertificate contents c.args.script.now shaped) halt
    (c.in_err-stated.ensures.exact contents (later one two told))))

pub returns-in_err-given-clause-exact : goal.returns-in_err-given-clause-exact
returns-in_err-given-clause-exact g c = λ contents told.
    let shaped = c.in_ok-shaped.shaped in
    let halt = c.in_err-given.field-0.0 in
    let one = c.in_ok-shaped.ensures.files.3 in
    let two = c.in_ok-stated.ensures.files.3 in
    let three = c.in_err-given.ensures.files.3 in
    let before = adds_both one two c.in_ok-shaped.ensures.files.0 in
    let both = earlier before three told in
    stops_so (ExplainEnds contents c.args.set.now c.args.certificate.now c.args.script.now)
    c.from_residual-in_err-given.result c.in_err-given.field-0.0
    c.from_residual-in_err-given.ensures.1
    (from_certificate contents c.args.set.now c.args.certificate.now c.args.script.now shaped
    c.in_ok-stated.stated (c.in_ok-shaped.ensures.exact contents (earlier one two both))
    (c.in_ok-stated.ensures.exact contents (later one two both)) (Err halt)
    (stopped (Exactly (script_in contents c.args.script.now shaped.input.set))
    (ExplanationOf shaped c.in_ok-stated.stated) halt
    (rw c.set.ensures.is
    at (c.in_err-given.ensures.exact contents (later before three told)))))

pub returns-clause-exact : goal.returns-clause-exact
returns-clause-exact g c = λ contents told.
    let one = c.in_ok-shaped.ensures.files.3 in
    let two = c.in_ok-stated.ensures.files.3 in
    let three = c.in_ok-given.ensures.files.3 in
    let before = adds_both one two c.in_ok-shaped.ensures.files.0 in
    let both = earlier before three told in
    from_script contents c.args.set.now c.args.certificate.now c.args.script.now
    c.in_ok-shaped.shaped c.in_ok-stated.stated
    (c.in_ok-shaped.ensures.exact contents (earlier one two both))
    (c.in_ok-stated.ensures.exact contents (later one two both))
    c.in_ok-given.given c.explanation.result
    (rw c.set.ensures.is
    at (c.in_ok-given.ensures.exact contents (later before three told)))
    c.explanation.ensures.exact

pub returns-in_err-stated-clause-files : goal.returns-in_err-stated-clause-files
returns-in_err-stated-clause-files g c =
    leaves_both g.F.Files.contents g.F.Files.faults g.F.Files.log _ _ _ _ _ _
    c.in_ok-shaped.ensures.files c.in_err-stated.ensures.files
    (passed_on c.in_err-stated.field-0.0 c.from_residual-in_err-stated.result
    c.from_residual-in_err-stated.ensures.1)

pub returns-in_err-given-clause-files : goal.returns-in_err-given-clause-files
returns-in_err-given-clause-files g c =
    leaves_both g.F.Files.contents g.F.Files.faults g.F.Files.log _ _ _ _ _ _
    (leaves_both g.F.Files.contents g.F.Files.faults g.F.Files.log _ _ _ _ _ _
    c.in_ok-shaped.ensures.files c.in_ok-stated.ensures.files (λ e. e))
    c.in_err-given.ensures.files
    (passed_on c.in_err-given.field-0.0 c.from_residual-in_err-given.result
    c.from_residual-in_err-given.ensures.1)

pub returns-clause-files : goal.returns-clause-files
returns-clause-files g c =
    leaves_both g.F.Files.contents g.F.Files.faults g.F.Files.log _ _ _ _ _ _
    (leaves_both g.F.Files.contents g.F.Files.faults g.F.Files.log _ _ _ _ _ _
    c.in_ok-shaped.ensures.files c.in_ok-stated.ensures.files (λ e. e))
    c.in_ok-given.ensures.files (λ e. absurd (c.explanation.ensures.no_fault e))

pub returns-in_err-shaped-clause-asks : goal.returns-in_err-shaped-clause-asks
returns-in_err-shaped-clause-asks g c =
    let halt = c.in_err-shaped.field-0.0 in
    let before = asks_less {B = Answer} halt (λ (h : Halt). Unit {0})
    (λ contents. c.args.certificate.now ∷ []) c.in_err-shaped.ensures.asks (Err halt) tt in
    asks_less halt _ (λ contents. c.args.script.now ∷ []) before c.from_residual.result
    c.from_residual.ensures.1

pub returns-in_err-stated-clause-asks : goal.returns-in_err-stated-clause-asks
returns-in_err-stated-clause-asks g c =
    let halt = c.in_err-stated.field-0.0 in
    let stop : Result Answer Halt = Err halt in
    let before = asks_more c.in_ok-shaped.ensures.files.3 c.in_err-stated.ensures.files.3
    c.in_ok-shaped.shaped {result = stop} c.in_ok-shaped.ensures.asks
    c.in_err-stated.ensures.asked in
    asks_less halt _ (λ contents. c.args.script.now ∷ []) before
    c.from_residual-in_err-stated.result c.from_residual-in_err-stated.ensures.1

pub returns-in_err-given-clause-asks : goal.returns-in_err-given-clause-asks
returns-in_err-given-clause-asks g c =
    let one = c.in_ok-shaped.ensures.files.3 in
    let two = c.in_ok-stated.ensures.files.3 in
    let both = adds_both one two c.in_ok-shaped.ensures.files.0 in
    asks_more both c.in_err-given.ensures.files.3 c.in_ok-stated.stated
    (asks_more one two c.in_ok-shaped.shaped c.in_ok-shaped.ensures.asks
    c.in_ok-stated.ensures.asked) c.in_err-given.ensures.asked

pub returns-clause-asks : goal.returns-clause-asks
returns-clause-asks g c =
    let one = c.in_ok-shaped.ensures.files.3 in
    let two = c.in_ok-stated.ensures.files.3 in
    let both = adds_both one two c.in_ok-shaped.ensures.files.0 in
    asks_more both c.in_ok-given.ensures.files.3 c.in_ok-stated.stated
    (asks_more one two c.in_ok-shaped.shaped c.in_ok-shaped.ensures.asks
    c.in_ok-stated.ensures.asked) c.in_ok-given.ensures.asked
