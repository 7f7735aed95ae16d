use Rattle.std.proofs.Common.{refl, sym}
use Rattle.std.proofs.lemmas.List.{set-get_or}
use Rattle.preempt_machine.specs.Machine.{no_job}
use Rattle.preempt_machine.specs.Inner.Parts.{machine_of}
use Rattle.preempt_machine.proofs.CandidateTurns.{no_fetch, turned_off}
use Rattle.preempt_machine.proofs.parts.Parts.switch.Goals as goal

pub returns-clause-turned : goal.returns-clause-turned
returns-clause-turned c sys e =
    let m = machine_of c.args.self.now in
    let place = c.args.place in
    record {
      state =
          rw (turned_off sys m place c.args.left e c.requires.left, set-get_or m.jobs place no_job)
          refl;
      steps = refl;
      fetch = sym (no_fetch sys m place c.args.left e c.requires.left);
      geometry = refl;
      completions = refl;
      queue = refl;
    }
