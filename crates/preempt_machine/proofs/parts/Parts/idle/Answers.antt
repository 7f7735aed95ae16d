use Rattle.std.proofs.Common.{◌<◌, ◌≤◌, inl, inr, arith}
use Rattle.preempt_machine.specs.Inner.Parts.{machine_of, running_of}
use Rattle.preempt_machine.proofs.Idling.{idle_made, kept_idle, next_is_later, none_before}
use Rattle.preempt_machine.proofs.parts.Parts.idle.Goals as goal

pub returns-clause-made : goal.returns-clause-made
returns-clause-made c code =
    let old = c.args.self.now in
    let kept = c.requires.machine in
    let next = c.next_release-self.ensures in
    let m = machine_of old in
    let later : old.schedule.steps < c.next_release-self.result = elim next.one [
      | inl e ↦ omega (arith, c.requires.before)
      | inr (inside, e) ↦ omega (arith, next_is_later _ m _ _ _ _ _ kept c.requires.idle inside)
    ] in
    idle_made code (running_of old) c.next_release-self.result c.args.until later next.within
    (λ t h. none_before _ m _ _ _ _ _ t kept c.requires.idle
    (λ inside. omega (arith, next.before inside)))

pub returns-clause-machine : goal.returns-clause-machine
returns-clause-machine c =
    let old = c.args.self.now in
    let next = c.next_release-self.ensures in
    let m = machine_of old in
    let later : old.schedule.steps ≤ c.next_release-self.result = elim next.one [
      | inl e ↦ omega (arith, c.requires.before)
      | inr (inside, e) ↦
          omega (arith, next_is_later _ m _ _ _ _ _ c.requires.machine c.requires.idle inside)
    ] in
    kept_idle _ m _ _ _ _ _ c.next_release-self.result c.requires.machine later next.before
