use Rattle.std.proofs.Common.{◌≡◌, ℕ, List, Result, Ok, Err}
use Rattle.crpd_base.specs.declared.data.Certificate.{Certificate}
use Rattle.crpd_io.specs.Outside.{Contents}
use Rattle.crpd_input.specs.Reading.{certificate_in}
use Rattle.crpd_input.specs.Shapes.{ShapedIn}
use Rattle.crpd_input.specs.Steps.{Exactly, MeansBy}
use Rattle.crpd_input.specs.declared.halt.Halt.{Halt}
use Rattle.crpd_input.proofs.Chain.{goes_on, stopped}
use Rattle.crpd_tool.specs.Update.{UpdateEnds, UpdateFromCertificate, UpdateFromShapes}
use Rattle.crpd_tool.specs.Update.{UpdateOf}
use Rattle.crpd_tool.specs.declared.answer.Answer.{Answer}
use Rattle.task_shapes.specs.Shapes.{SetWithShapes}
use Rattle.crpd_input.proofs.Chain.{stops_so}
use Rattle.crpd_io.proofs.Logs.{adds_both, earlier, later}
use Rattle.crpd_input.proofs.Stopping.{leaves_both, passed_on}
use Rattle.std.proofs.Common.{[], ◌∷◌}
use Rattle.crpd_input.specs.Asking.{set_files}
use Rattle.crpd_input.specs.declared.halt.Halt.{Halt}
use Rattle.crpd_input.proofs.Asking.{asks_both, asks_end, asks_less, asks_more, asks_stop}
use Rattle.crpd_tool.proofs.update.update.Goals as goal

-- the steps up to the old certificate
module _ (contents : Contents) (old_set old_certificate new_set : List ℕ) (old : SetWithShapes)
    (stated : Certificate) (is : ShapedIn contents old_set (Ok old))
    (stated_is : certificate_in contents old_certificate ≡ Ok stated) where
  from_certificate : (r : Result Answer Halt)
      → MeansBy (UpdateFromCertificate contents new_set old stated) r
      → MeansBy (UpdateEnds contents old_set old_certificate new_set) r
  from_certificate r later =
      goes_on (ShapedIn contents old_set)
      (UpdateFromShapes contents old_certificate new_set) old r is
      (goes_on (Exactly (certificate_in contents old_certificate))
      (UpdateFromCertificate contents new_set old) stated r stated_is later)

  -- the steps up to the new set
  from_new : (new : SetWithShapes) (r : Result Answer Halt) → ShapedIn contents new_set (Ok new)
      → MeansBy (UpdateOf new_set old stated new) r
      → MeansBy (UpdateEnds contents old_set old_certificate new_set) r
  from_new new r new_is later =
      from_certificate r
      (goes_on (ShapedIn contents new_set)
      (UpdateOf new_set old stated) new r new_is later)

pub returns-in_err-old-clause-exact : goal.returns-in_err-old-clause-exact
returns-in_err-old-clause-exact g c = λ contents told.
    stops_so (UpdateEnds contents c.args.old_set.now c.args.old_certificate.now c.args.new_set.now)
    c.from_residual.result c.in_err-old.field-0.0 c.from_residual.ensures.1
    (stopped (ShapedIn contents c.args.old_set.now)
    (UpdateFromShapes contents c.args.old_certificate.now c.args.new_set.now)
    c.in_err-old.field-0.0 (c.in_err-old.ensures.exact contents told))

pub returns-in_err-stated-clause-exact : goal.returns-in_err-stated-clause-exact
returns-in_err-stated-clause-exact g c = λ contents told.
    let old = c.in_ok-old.old in
    let halt = c.in_err-stated.field-0.0 in
    let one = c.in_ok-old.ensures.files.3 in
    let two = c.in_err-stated.ensures.files.3 in
    stops_so (UpdateEnds contents c.args.old_set.now c.args.old_certificate.now c.args.new_set.now)
    c.from_residual-in_err-stated.result c.in_err-stated.field-0.0
    c.from_residual-in_err-stated.ensures.1
    (goes_on (ShapedIn contents c.args.old_set.now)
    (UpdateFromShapes contents c.args.old_certificate.now c.args.new_set.now) old (Err halt)
    (c.in_ok-old.ensures.exact contents (earlier one two told))
    (stopped (Exactly (certificate_in contents c.args.old_certificate.now))
    (UpdateFromCertificate contents c.args.new_set.now old) halt
    (c.in_err-stated.ensures.exact contents (later one two told))))

pub returns-in_err-new-clause-exact : goal.returns-in_err-new-clause-exact
returns-in_err-new-clause-exact g c = λ contents told.
    let old = c.in_ok-old.old in
    let stated = c.in_ok-stated.stated in
    let halt = c.in_err-new.field-0.0 in
    let one = c.in_ok-old.ensures.files.3 in
    let two = c.in_ok-stated.ensures.files.3 in
    let three = c.in_err-new.ensures.files.3 in
    let before = adds_both one two c.in_ok-old.ensures.files.0 in
    let both = earlier before three told in
    stops_so (UpdateEnds contents c.args.old_set.now c.args.old_certificate.now c.args.new_set.now)
    c.from_residual-in_err-new.result c.in_err-new.field-0.0 c.from_residual-in_err-new.ensures.1
    (from_certificate contents c.args.old_set.now c.args.old_certificate.now c.args.new_set.now old
    stated (c.in_ok-old.ensures.exact contents (earlier one two both))
    (c.in_ok-stated.ensures.exact contents (later one two both)) (Err halt)
    (stopped (ShapedIn contents c.args.new_set.now)
    (UpdateOf c.args.new_set.now old stated) halt
    (c.in_err-new.ensures.exact contents (later before three told))))

pub returns-clause-exact : goal.returns-clause-exact
returns-clause-exact g c = λ contents told.
    let one = c.in_ok-old.ensures.files.3 in
    let two = c.in_ok-stated.ensures.files.3 in
    let three = c.in_ok-new.ensures.files.3 in
    let before = adds_both one two c.in_ok-old.ensures.files.0 in
    let both = earlier before three told in
    from_new contents c.args.old_set.now c.args.old_certificate.now c.args.new_set.now
    c.in_ok-old.old c.in_ok-stated.stated
    (c.in_ok-old.ensures.exact contents (earlier one two both))
    (c.in_ok-stated.ensures.exact contents (later one two both))
    c.in_ok-new.new c.judged_change.result
    (c.in_ok-new.ensures.exact contents (later before three told))
    c.judged_change.ensures.exact

pub returns-in_err-stated-clause-files : goal.returns-in_err-stated-clause-files
returns-in_err-stated-clause-files g c =
    leaves_both g.F.Files.contents g.F.Files.faults g.F.Files.log _ _ _ _ _ _
    c.in_ok-old.ensures.files c.in_err-stated.ensures.files
    (passed_on c.in_err-stated.field-0.0 c.from_residual-in_err-stated.result
    c.from_residual-in_err-stated.ensures.1)

pub returns-in_err-new-clause-files : goal.returns-in_err-new-clause-files
returns-in_err-new-clause-files g c =
    leaves_both g.F.Files.contents g.F.Files.faults g.F.Files.log _ _ _ _ _ _
    (leaves_both g.F.Files.contents g.F.Files.faults g.F.Files.log _ _ _ _ _ _
    c.in_ok-old.ensures.files c.in_ok-stated.ensures.files (λ e. e))
    c.in_err-new.ensures.files
    (passed_on c.in_err-new.field-0.0 c.from_residual-in_err-new.result
    c.from_residual-in_err-new.ensures.1)

pub returns-clause-files : goal.returns-clause-files
returns-clause-files g c =
    leaves_both g.F.Files.contents g.F.Files.faults g.F.Files.log _ _ _ _ _ _
    (leaves_both g.F.Files.contents g.F.Files.faults g.F.Files.log _ _ _ _ _ _
    c.in_ok-old.ensures.files c.in_ok-stated.ensures.files (λ e. e))
    c.in_ok-new.ensures.files (λ e. absurd (c.judged_change.ensures.no_fault e))

pub returns-in_err-old-clause-asks : goal.returns-in_err-old-clause-asks
returns-in_err-old-clause-asks g c =
    let halt = c.in_err-old.field-0.0 in
    let before = asks_less {B = Answer} halt (λ (h : Halt). Unit {0})
    (λ contents. c.args.old_certificate.now ∷ []) c.in_err-old.ensures.asks (Err halt) tt in
    asks_less halt _ (λ contents. set_files contents c.args.new_set.now) before
    c.from_residual.result c.from_residual.ensures.1

pub returns-in_err-stated-clause-asks : goal.returns-in_err-stated-clause-asks
returns-in_err-stated-clause-asks g c =
    let halt = c.in_err-stated.field-0.0 in
    let stop : Result Answer Halt = Err halt in
    let before = asks_more c.in_ok-old.ensures.files.3 c.in_err-stated.ensures.files.3
    c.in_ok-old.old {result = stop} c.in_ok-old.ensures.asks c.in_err-stated.ensures.asked in
    asks_less halt _ (λ contents. set_files contents c.args.new_set.now) before
    c.from_residual-in_err-stated.result c.from_residual-in_err-stated.ensures.1

pub returns-in_err-new-clause-asks : goal.returns-in_err-new-clause-asks
returns-in_err-new-clause-asks g c =
    let one = c.in_ok-old.ensures.files.3 in
    let two = c.in_ok-stated.ensures.files.3 in
    let both = adds_both one two c.in_ok-old.ensures.files.0 in
    let before = asks_more one two c.in_ok-old.old {result = Ok c.in_ok-stated.stated}
    c.in_ok-old.ensures.asks c.in_ok-stated.ensures.asked in
    asks_stop c.in_err-new.field-0.0 _
    (asks_both both c.in_err-new.ensures.files.3 c.in_ok-stated.stated before
    c.in_err-new.ensures.asks)
    c.from_residual-in_err-new.result c.from_residual-in_err-new.ensures.1

pub returns-clause-asks : goal.returns-clause-asks
returns-clause-asks g c =
    let one = c.in_ok-old.ensures.files.3 in
    let two = c.in_ok-stated.ensures.files.3 in
    let both = adds_both one two c.in_ok-old.ensures.files.0 in
    let before = asks_more one two c.in_ok-old.old {result = Ok c.in_ok-stated.stated}
    c.in_ok-old.ensures.asks c.in_ok-stated.ensures.asked in
    asks_end c.in_ok-new.new
    (asks_both both c.in_ok-new.ensures.files.3 c.in_ok-stated.stated before
    c.in_ok-new.ensures.asks) _
