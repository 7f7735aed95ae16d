use Rattle.std.proofs.Common.{◌≡◌, Some, refl, sym, ◌∙◌, arith}
use Rattle.preempt_machine.specs.Running.{system_by}
use Rattle.preempt_machine.proofs.Steps.{candidate_none}
use Rattle.preempt_machine.proofs.CandidateTurns.{candidate_is}
use Rattle.preempt_machine.specs.Inner.Stretches.{fast_machine_of}
use Rattle.preempt_machine.proofs.Observing.{passed_to}
use Rattle.preempt_machine.proofs.stretches.FastParts.make_fast_steps.Goals as goal

pub candidate-requires-clause-due : goal.candidate-requires-clause-due
candidate-requires-clause-due g c = c.requires.runs.machine.due

pub candidate-requires-clause-waiting : goal.candidate-requires-clause-waiting
candidate-requires-clause-waiting g c = c.requires.runs.machine.waiting

pub candidate-requires-clause-owner : goal.candidate-requires-clause-owner
candidate-requires-clause-owner g c = c.requires.runs.machine.owner

pub reach-reach-requires-clause-owner : goal.reach-reach-requires-clause-owner
reach-reach-requires-clause-owner g c o e = (c.requires.runs.machine.owner o e).below

pub take-requires-clause-reach : goal.take-requires-clause-reach
take-requires-clause-reach g c keep =
    let m = fast_machine_of c.args.self.now in
    let core = c.args.self.now.core in
    let sys = system_by core.geometry.platform c.args.code.now in
    let owner : m.owner ≡ Some c.in-Some.place =
    sym (candidate_is sys m ∙ rw keep refl)
    ∙ sym (c.in-Some.ensures.is sys core.cache core.memory refl) in
    c.reach-reach.ensures.keeps keep owner

pub idle-requires-clause-idle : goal.idle-requires-clause-idle
idle-requires-clause-idle g c =
    let core = c.args.self.now.core in
    let sys = system_by core.geometry.platform c.args.code.now in
    candidate_none sys (fast_machine_of c.args.self.now)
    (sym (c.in-None.ensures.is sys core.cache core.memory refl))

pub returns-in-None-clause-after : goal.returns-in-None-clause-after
returns-in-None-clause-after g c =
    let o = c.args.observer.now in
    let s = g.O.Observer.start (g.O.Observer.observed o) in
    let later = c.idle.ensures.later s c.requires.runs in
    passed_to s (g.O.Observer.has_observed o) (g.met.O.Observer.passes o)
    c.args.self.now.schedule.steps c.idle.new.self.schedule.steps (omega (arith, later))
    (c.idle.ensures.none s c.requires.runs) c.requires.before_steps

pub returns-in-None-clause-runs : goal.returns-in-None-clause-runs
returns-in-None-clause-runs g c =
    c.idle.ensures.runs (g.O.Observer.start (g.O.Observer.observed c.args.observer.now))
    c.requires.runs

pub returns-in-None-clause-later : goal.returns-in-None-clause-later
returns-in-None-clause-later g c =
    c.idle.ensures.later (g.O.Observer.start (g.O.Observer.observed c.args.observer.now))
    c.requires.runs
