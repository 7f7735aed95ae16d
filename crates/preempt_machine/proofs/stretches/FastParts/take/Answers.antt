use Rattle.std.proofs.Common.{sym, ap, subst, arith}
use Rattle.preempt_machine.specs.Machine.{Machine, no_job, job_at}
use Rattle.preempt_machine.specs.Running.{system_by}
use Rattle.preempt_machine.specs.Inner.Stretches.{fast_machine_of}
use Rattle.preempt_machine.proofs.Candidates.{open_is}
use Rattle.preempt_machine.proofs.Firsts.{lines_long}
use Rattle.preempt_machine.proofs.Steps.{candidate_some, ready_open}
use Rattle.preempt_machine.proofs.Taking.{next_later, taken_head, taken_runs, taken_task}
use Rattle.preempt_machine.proofs.Taking.{taken_time, takes, told_turns, turns_of}
use Rattle.preempt_machine.proofs.stretches.FastParts.take.Goals as goal

pub tell_releases-requires : goal.tell_releases-requires
tell_releases-requires g c p inside =
    let h = c.requires.runs.machine in
    omega (arith, h.due.places p inside, h.told, lines_long c.args.self.now.schedule.jobs.items)

pub turn-requires-clause-room : goal.turn-requires-clause-room
turn-requires-clause-room g c = c.requires.runs.machine.room

pub turn-requires-clause-decoded : goal.turn-requires-clause-decoded
turn-requires-clause-decoded g c = c.requires.runs.run.decoded

pub turn-requires-clause-plan : goal.turn-requires-clause-plan
turn-requires-clause-plan g c =
    rw c.tell_releases.ensures.jobs
    (c.requires.runs.run.plans c.args.place c.requires.head.below)

pub turn-requires-clause-below : goal.turn-requires-clause-below
turn-requires-clause-below g c = rw c.tell_releases.ensures.jobs c.requires.head.below

pub turn-requires-clause-open : goal.turn-requires-clause-open
turn-requires-clause-open g c =
    let m = fast_machine_of c.args.self.now in
    rw c.tell_releases.ensures.jobs
    (open_is (job_at m.jobs c.args.place).standing
    (ready_open m.time (job_at m.jobs c.args.place)
    (candidate_some _ m c.args.place c.requires.candidate).ready))

pub turn-requires-clause-before : goal.turn-requires-clause-before
turn-requires-clause-before g c =
    next_later c.args.self.now.schedule c.tell_releases.new.self c.args.until
    c.next_release-until.result c.tell_releases.ensures c.requires.before
    c.next_release-until.ensures

pub turn-requires-clause-system : goal.turn-requires-clause-system
turn-requires-clause-system g c = c.requires.runs.system

pub turn-requires-clause-flagged : goal.turn-requires-clause-flagged
turn-requires-clause-flagged g c K =
    rw c.tell_releases.ensures.jobs
    (c.requires.runs.kept.0 K c.args.place no_job c.requires.head.below)

pub turn-requires-clause-before_steps : goal.turn-requires-clause-before_steps
turn-requires-clause-before_steps g c =
    rw c.tell_releases.ensures.steps c.requires.before_steps

pub turn-requires-clause-turns_at : goal.turn-requires-clause-turns_at
turn-requires-clause-turns_at g c =
    let s = g.O.Observer.start (g.O.Observer.observed c.args.observer.now) in
    told_turns s c.args.code.now c.next_release-until.result c.args.until c.args.self.now
    c.tell_releases.new.self c.args.place c.requires.runs c.requires.candidate
    c.tell_releases.ensures c.next_release-until.ensures c.requires.reach

pub tell_end-requires-clause-head : goal.tell_end-requires-clause-head
tell_end-requires-clause-head g c =
    let until = c.next_release-until.result in
    let sys = system_by c.args.self.now.core.geometry.platform c.args.code.now in
    let h = takes c.args.code.now until c.args.until c.args.self.now c.tell_releases.new.self
    c.turn.new.self c.args.place c.requires.runs.machine c.requires.candidate c.requires.head
    c.tell_releases.ensures c.in_ok-turn.ensures.turned c.next_release-until.ensures
    c.requires.reach in
    taken_head sys until c.args.self.now c.tell_releases.new.self c.turn.new.self c.args.place h

pub tell_end-requires-clause-task : goal.tell_end-requires-clause-task
tell_end-requires-clause-task g c =
    let until = c.next_release-until.result in
    let sys = system_by c.args.self.now.core.geometry.platform c.args.code.now in
    let h = takes c.args.code.now until c.args.until c.args.self.now c.tell_releases.new.self
    c.turn.new.self c.args.place c.requires.runs.machine c.requires.candidate c.requires.head
    c.tell_releases.ensures c.in_ok-turn.ensures.turned c.next_release-until.ensures
    c.requires.reach in
    taken_task sys until c.args.self.now c.tell_releases.new.self c.turn.new.self c.args.place h

pub returns-clause-runs : goal.returns-clause-runs
returns-clause-runs g c =
    let s = g.O.Observer.start (g.O.Observer.observed c.args.observer.now) in
    let until = c.next_release-until.result in
    let sys = system_by c.args.self.now.core.geometry.platform c.args.code.now in
    let h = takes c.args.code.now until c.args.until c.args.self.now c.tell_releases.new.self
    c.turn.new.self c.args.place c.requires.runs.machine c.requires.candidate c.requires.head
    c.tell_releases.ensures c.in_ok-turn.ensures.turned c.next_release-until.ensures
    c.requires.reach in
    taken_runs s c.args.code.now until c.args.self.now c.tell_releases.new.self c.turn.new.self
    c.tell_end.new.self c.args.place c.requires.runs h c.tell_end.ensures
    c.in_ok-turn.ensures.plan c.in_ok-turn.ensures.decoded c.in_ok-turn.ensures.kept

pub returns-clause-later : goal.returns-clause-later
returns-clause-later g c =
    let until = c.next_release-until.result in
    let sys = system_by c.args.self.now.core.geometry.platform c.args.code.now in
    let h = takes c.args.code.now until c.args.until c.args.self.now c.tell_releases.new.self
    c.turn.new.self c.args.place c.requires.runs.machine c.requires.candidate c.requires.head
    c.tell_releases.ensures c.in_ok-turn.ensures.turned c.next_release-until.ensures
    c.requires.reach in
    let t = turns_of sys until c.args.self.now c.tell_releases.new.self c.turn.new.self c.args.place
    h in
    omega (
      arith,
      t.some,
      taken_time sys until c.args.self.now c.tell_releases.new.self
          c.turn.new.self c.tell_end.new.self c.args.place h c.tell_end.ensures,
    )

pub returns-clause-within : goal.returns-clause-within
returns-clause-within g c =
    let until = c.next_release-until.result in
    let sys = system_by c.args.self.now.core.geometry.platform c.args.code.now in
    let h = takes c.args.code.now until c.args.until c.args.self.now c.tell_releases.new.self
    c.turn.new.self c.args.place c.requires.runs.machine c.requires.candidate c.requires.head
    c.tell_releases.ensures c.in_ok-turn.ensures.turned c.next_release-until.ensures
    c.requires.reach in
    let t = turns_of sys until c.args.self.now c.tell_releases.new.self c.turn.new.self c.args.place
    h in
    omega (
      arith,
      t.within,
      c.next_release-until.ensures.within,
      taken_time sys until
          c.args.self.now c.tell_releases.new.self c.turn.new.self c.tell_end.new.self c.args.place
          h c.tell_end.ensures,
    )

pub returns-clause-after : goal.returns-clause-after
returns-clause-after g c =
    let turned = c.turn.new.self in
    let time = ap (λ (m : Machine). m.time)
    (c.tell_end.ensures.state turned.core.cache turned.core.memory) in
    subst (λ n. g.O.Observer.has_observed c.turn.new.observer n) (sym time)
    c.in_ok-turn.ensures.after
