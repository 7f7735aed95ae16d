use Rattle.std.proofs.Common.{refl, sym, subst}
use Rattle.std.proofs.lemmas.Result.{on_ok_weaker}
use Rattle.preempt_machine.specs.Running.{system_by}
use Rattle.preempt_machine.specs.Machine.{Machine}
use Rattle.preempt_machine.specs.Inner.KeptFlag.{ChangesOwner}
use Rattle.preempt_machine.specs.Inner.Parts.{machine_of, HasStepped}
use Rattle.preempt_machine.proofs.SeveralSteps.{one_made}
use Rattle.preempt_machine.proofs.Steps.{candidate_none}
use Rattle.preempt_machine.proofs.Watches.{none_changes, step_changes}
use Rattle.preempt_machine.proofs.parts.Parts.advance.Goals as goal

pub returns-in-Some-clause-ok : goal.returns-in-Some-clause-ok
returns-in-Some-clause-ok c =
    on_ok_weaker c.take.result
    (one_made c.args.code.now c.args.self.now c.take.new.self c.args.until c.requires.before)
    c.take.ensures.ok

pub idle-requires-clause-idle : goal.idle-requires-clause-idle
idle-requires-clause-idle c =
    let core = c.args.self.now.core in
    let sys = system_by core.geometry.platform c.args.code.now in
    candidate_none sys (machine_of c.args.self.now)
    (sym (c.in-None.ensures.is sys core.cache core.memory refl))

pub returns-in-None-clause-ok : goal.returns-in-None-clause-ok
returns-in-None-clause-ok c = c.idle.ensures.made c.args.code.now

pub returns-in-Some-clause-owner : goal.returns-in-Some-clause-owner
returns-in-Some-clause-owner c =
    let m = machine_of c.args.self.now in
    let core = c.args.self.now.core in
    let sys = system_by core.geometry.platform c.args.code.now in
    on_ok_weaker c.take.result
    (λ (h : HasStepped sys c.args.self.now c.take.new.self).
    subst (λ (n : Machine). ChangesOwner m n) (sym h.state)
    (step_changes sys m c.in-Some.place
    (sym (c.in-Some.ensures.is sys core.cache core.memory refl))))
    c.take.ensures.ok

pub returns-in-None-clause-owner : goal.returns-in-None-clause-owner
returns-in-None-clause-owner c =
    none_changes (machine_of c.args.self.now) (machine_of c.idle.new.self) c.idle.ensures.jobs
