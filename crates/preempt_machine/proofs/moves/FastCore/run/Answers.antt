use Rattle.std.proofs.Common.{◌≡◌, refl, sym, ◌∙◌, ap, subst, length, arith}
use Rattle.crpd_base.specs.declared.data.ScriptJob.{ScriptJob}
use Rattle.crpd_base.specs.declared.data.TaskPlan.{TaskPlan}
use Rattle.icache.specs.declared.Geometry.{Geometry}
use Rattle.flow_watch.specs.Iterations.{HasIterations}
use Rattle.preempt_machine.specs.Machine.{System, plan_of}
use Rattle.preempt_machine.specs.Running.{system_by}
use Rattle.preempt_machine.specs.Step.{is_open}
use Rattle.preempt_machine.specs.Jobs.{turn_by}
use Rattle.preempt_machine.specs.Inner.Addresses.{AreDecodedAddresses}
use Rattle.preempt_machine.specs.Inner.Moves.{AreTurnsAt, HasMoved}
use Rattle.preempt_machine.proofs.Candidates.{open_is}
use Rattle.preempt_machine.proofs.TurnsInARow.{has_plan_of, moved_line, moved_long, moved_on}
use Rattle.preempt_machine.proofs.TurnsInARow.{moves_on, stands}
use Rattle.preempt_machine.proofs.Observing.{moved_unbroken, turns_on}
use Rattle.preempt_machine.proofs.moves.FastCore.run.Goals as goal

pub advance-requires-clause-room : goal.advance-requires-clause-room
advance-requires-clause-room g c =
    let long = moved_long _ _ _ _ _ c.loop-now.invariant.moved in
    let sets = ap (λ (g : Geometry). g.platform.sets) c.loop-now.invariant.geometry in
    omega (arith, long, sets, c.requires.room)

pub advance-requires-clause-open : goal.advance-requires-clause-open
advance-requires-clause-open g c =
    open_is c.loop-now.job.standing (sym c.if-is_open.ensures)

pub advance-requires-clause-plan : goal.advance-requires-clause-plan
advance-requires-clause-plan g c =
    let sys = system_by c.loop-now.self.geometry.platform c.args.dispatch.code.now in
    let now = system_by c.args.self.now.geometry.platform c.args.dispatch.code.now in
    let old = turn_by c.args.self.now.cache c.args.self.now.memory 0 c.args.job.now in
    let mid = turn_by c.loop-now.self.cache c.loop-now.self.memory 0 c.loop-now.job in
    let line : c.loop-now.job.line ≡ c.args.job.now.line =
    moved_line now c.args.from c.loop-now.now old mid c.loop-now.invariant.moved in
    ap (λ (l : ScriptJob). plan_of sys l.task.0) line ∙ c.requires.own_plan

pub advance-requires-clause-turns : goal.advance-requires-clause-turns
advance-requires-clause-turns g c =
    let sys = system_by c.loop-now.self.geometry.platform c.args.dispatch.code.now in
    let now = system_by c.args.self.now.geometry.platform c.args.dispatch.code.now in
    let old = turn_by c.args.self.now.cache c.args.self.now.memory 0 c.args.job.now in
    let mid = turn_by c.loop-now.self.cache c.loop-now.self.memory 0 c.loop-now.job in
    let line : c.loop-now.job.line ≡ c.args.job.now.line =
    moved_line now c.args.from c.loop-now.now old mid c.loop-now.invariant.moved in
    let plan : plan_of sys c.loop-now.job.line.task.0 ≡ c.args.dispatch.plan.now =
    ap (λ (l : ScriptJob). plan_of sys l.task.0) line ∙ c.requires.own_plan in
    subst (λ (p : TaskPlan). HasIterations (length p.loops) c.loop-now.job.watch) plan
    c.loop-now.invariant.plan.loops

pub advance-requires-clause-flagged : goal.advance-requires-clause-flagged
advance-requires-clause-flagged g c K = (c.loop-now.invariant.kept.0 K).1

pub advance-requires-clause-system : goal.advance-requires-clause-system
advance-requires-clause-system g c =
    let Run = g.O.Observer.Run in
    ap (λ (r : Run). (g.O.Observer.start r).system) c.loop-now.invariant.same ∙ c.requires.system
    ∙ ap (λ (g : Geometry). system_by g.platform c.args.dispatch.code.now)
    (sym c.loop-now.invariant.geometry)

pub advance-requires-clause-turns_at : goal.advance-requires-clause-turns_at
advance-requires-clause-turns_at g c =
    let Run = g.O.Observer.Run in
    let h = c.loop-now.invariant in
    let s = g.O.Observer.start (g.O.Observer.observed c.args.observer.now) in
    let old = turn_by c.args.self.now.cache c.args.self.now.memory 0 c.args.job.now in
    let mid = turn_by c.loop-now.self.cache c.loop-now.self.memory 0 c.loop-now.job in
    subst (λ (r : Run). AreTurnsAt (g.O.Observer.start r) c.args.dispatch.place c.loop-now.now
    c.args.dispatch.until mid c.loop-now.self.kept) (sym h.same)
    (turns_on s c.args.dispatch.place c.args.from c.loop-now.now c.args.dispatch.until old mid
    c.args.self.now.kept c.loop-now.self.kept
    (subst (λ (y : System). HasMoved y c.args.from c.loop-now.now old mid)
    (sym c.requires.system) h.moved)
    h.kept c.requires.turns_at)

pub returns-else-is_open-clause-moved : goal.returns-else-is_open-clause-moved
returns-else-is_open-clause-moved g c = c.loop-now.invariant.moved

pub returns-else-is_open-clause-within : goal.returns-else-is_open-clause-within
returns-else-is_open-clause-within g c = c.loop-now.invariant.within

pub returns-else-is_open-clause-plan : goal.returns-else-is_open-clause-plan
returns-else-is_open-clause-plan g c = c.loop-now.invariant.plan

pub returns-else-is_open-clause-geometry : goal.returns-else-is_open-clause-geometry
returns-else-is_open-clause-geometry g c = c.loop-now.invariant.geometry

pub returns-else-is_open-clause-decoded : goal.returns-else-is_open-clause-decoded
returns-else-is_open-clause-decoded g c = c.loop-now.invariant.decoded

pub returns-else-is_open-clause-kept : goal.returns-else-is_open-clause-kept
returns-else-is_open-clause-kept g c = c.loop-now.invariant.kept

pub returns-else-is_open-clause-same : goal.returns-else-is_open-clause-same
returns-else-is_open-clause-same g c = c.loop-now.invariant.same

pub returns-else-is_open-clause-after : goal.returns-else-is_open-clause-after
returns-else-is_open-clause-after g c = c.loop-now.invariant.observed

pub returns-after-loop-now-clause-moved : goal.returns-after-loop-now-clause-moved
returns-after-loop-now-clause-moved g c = c.loop-now.invariant.moved

pub returns-after-loop-now-clause-within : goal.returns-after-loop-now-clause-within
returns-after-loop-now-clause-within g c = c.loop-now.invariant.within

pub returns-after-loop-now-clause-plan : goal.returns-after-loop-now-clause-plan
returns-after-loop-now-clause-plan g c = c.loop-now.invariant.plan

pub returns-after-loop-now-clause-geometry : goal.returns-after-loop-now-clause-geometry
returns-after-loop-now-clause-geometry g c = c.loop-now.invariant.geometry

pub returns-after-loop-now-clause-decoded : goal.returns-after-loop-now-clause-decoded
returns-after-loop-now-clause-decoded g c = c.loop-now.invariant.decoded

pub returns-after-loop-now-clause-kept : goal.returns-after-loop-now-clause-kept
returns-after-loop-now-clause-kept g c = c.loop-now.invariant.kept

pub returns-after-loop-now-clause-same : goal.returns-after-loop-now-clause-same
returns-after-loop-now-clause-same g c = c.loop-now.invariant.same

pub returns-after-loop-now-clause-after : goal.returns-after-loop-now-clause-after
returns-after-loop-now-clause-after g c = c.loop-now.invariant.observed

pub returns-else-is_open-clause-later : goal.returns-else-is_open-clause-later
returns-else-is_open-clause-later g c =
    moved_on _ _ _ _ _ c.loop-now.invariant.moved (ap is_open c.requires.open)
    (sym c.if-is_open.ensures)

pub returns-after-loop-now-clause-later : goal.returns-after-loop-now-clause-later
returns-after-loop-now-clause-later g c = omega (arith, c.requires.before, c.loop-now-test.false)

pub loop-now-preserved : goal.loop-now-preserved
loop-now-preserved g c =
    let h = c.loop-now.invariant in
    let code = c.args.dispatch.code.now in
    let sys = system_by c.args.self.now.geometry.platform code in
    let old = turn_by c.args.self.now.cache c.args.self.now.memory 0 c.args.job.now in
    let mid = turn_by c.loop-now.self.cache c.loop-now.self.memory 0 c.loop-now.job in
    let new = turn_by c.advance.new.self.cache c.advance.new.self.memory 0 c.advance.new.job in
    let one : HasMoved sys c.loop-now.now c.in_ok-now.now mid new =
    subst (λ (g : Geometry).
    HasMoved (system_by g.platform code) c.loop-now.now c.in_ok-now.now mid new) h.geometry
    c.in_ok-now.ensures.moved in
    let all = moves_on sys c.args.from c.loop-now.now c.in_ok-now.now old mid new h.moved one in
    let line = moved_line sys c.args.from c.in_ok-now.now old new all in
    record {
      moved = all;
      within = c.in_ok-now.ensures.within;
      plan =
          has_plan_of code.plans c.args.job.now c.advance.new.job line c.requires.plan
          (subst (λ (p : TaskPlan). HasIterations (length p.loops) c.advance.new.job.watch)
          (sym c.requires.own_plan) c.in_ok-now.ensures.turns);
      geometry = c.in_ok-now.ensures.geometry ∙ h.geometry;
      quiet = c.in_ok-now.ensures.quiet;
      decoded =
          subst (λ (g : Geometry).
          AreDecodedAddresses g.platform code c.advance.new.self.decoded.places.items) h.geometry
          c.in_ok-now.ensures.decoded;
      kept = (
        λ K.
            let both = c.in_ok-now.ensures.kept.0 K in ((h.kept.0 both.0).0, both.1),
        λ both. c.in_ok-now.ensures.kept.1 (
          h.kept.1
              (both.0, moved_unbroken sys c.loop-now.now c.in_ok-now.now mid new one both.1),
          both.1,
        ),
      );
      observed = c.in_ok-now.ensures.after;
      same = c.in_ok-now.ensures.same ∙ h.same;
    }

pub loop-now-init : goal.loop-now-init
loop-now-init g c =
    record {
      moved = stands _ _ _;
      within = omega arith;
      plan = c.requires.plan;
      geometry = refl;
      quiet = c.quiet_of-quiet.ensures;
      decoded = c.requires.decoded;
      kept = (λ K. (K, c.requires.flagged K), λ both. both.0);
      observed = c.requires.before_from;
      same = refl;
    }

pub quiet_of-quiet-requires : goal.quiet_of-quiet-requires
quiet_of-quiet-requires g c =
    subst (λ (p : TaskPlan). HasIterations (length p.loops) c.args.job.now.watch)
    c.requires.own_plan c.requires.plan.loops
