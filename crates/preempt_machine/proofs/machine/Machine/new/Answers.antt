use Rattle.std.proofs.Common.{◌≤◌, ◌∙◌, None, length, ap, arith}
use Rattle.crpd_base.specs.declared.data.Platform.{Platform}
use Rattle.preempt_machine.specs.Inner.Schedule.{machine_by}
use Rattle.preempt_machine.specs.Machine.{Machine}
use Rattle.preempt_machine.specs.Running.{Running}
use Rattle.preempt_machine.proofs.machine.Machine.new.Goals as goal

idle : Platform → Machine → Running
idle p m = record { platform = p; state = m; fetch = None }

pub invariant_of-result : goal.invariant_of-result
invariant_of-result c =
    let sets = c.new-geometry.result.platform.sets in
    let room : sets ≤ length c.args.cache =
    omega (arith, ap (λ (p : Platform). p.sets) c.new-geometry.ensures, c.requires.room) in
    record {
      machine = c.in_ok-schedule.ensures.scheduled sets c.args.cache c.args.memory room;
      kept = c.are_kept-kept.ensures;
    }

pub returns-clause-started : goal.returns-clause-started
unfolding idle
returns-clause-started c =
    let m = machine_by c.args.cache c.args.memory c.in_ok-schedule.schedule in
    ap (λ (p : Platform). idle p m) c.new-geometry.ensures
    ∙ ap (idle c.args.set.now.platform)
    (c.in_ok-schedule.ensures.started c.args.cache c.args.memory)
