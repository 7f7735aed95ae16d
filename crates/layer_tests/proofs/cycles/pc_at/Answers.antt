use Rattle.std.proofs.Common.{sym, ap}
use Rattle.preempt_machine.specs.declared.Completion.{Completion}
use Rattle.preempt_machine.specs.Schedule.{completion}
use Rattle.preempt_machine.proofs.Starting.{at_place}
use Rattle.layer_tests.proofs.cycles.pc_at.Goals as goal

pub pc-requires : goal.pc-requires
pc-requires c =
    let place = c.args.place in
    let told = completion c.completions.result.now place in (
      place,
      at_place c.args.machine.now.state told.job place c.requires
          (sym (ap (λ (x : Completion). x.job) (c.completions.ensures.each place c.requires))),
    )
