use Rattle.std.proofs.Common.{◌≡◌, ◌↔◌, ◌+◌, ◌-◌, ◌≤◌, true, Some, refl, sym, ◌∙◌, ap, subst, arith}
use Rattle.std.proofs.Common.{get_or-set_same, IsTrue}
use Rattle.std.proofs.lemmas.List.{get_or_default, set-get_or}
use Rattle.flow_watch.specs.Watch.{is_unbroken}
use Rattle.preempt_machine.specs.Machine.{Job, job_at, no_job}
use Rattle.preempt_machine.specs.Running.{system_by}
use Rattle.preempt_machine.specs.Step.{is_open, turn_of}
use Rattle.preempt_machine.specs.Jobs.{turn_by}
use Rattle.preempt_machine.specs.Inner.Stretches.{fast_machine_of}
use Rattle.preempt_machine.specs.Inner.Moves.{HasMoved}
use Rattle.preempt_machine.proofs.Observing.{passed, turns_on, unfetched_switch}
use Rattle.preempt_machine.proofs.Taking.{comes_by}
use Rattle.preempt_machine.proofs.Turns.{plan_is}
use Rattle.preempt_machine.proofs.TurnsInARow.{moves_on, switches_by}
use Rattle.preempt_machine.proofs.stretches.FastParts.turn.Goals as goal

pub returns-then-rest-cycles-clause-turned : goal.returns-then-rest-cycles-clause-turned
returns-then-rest-cycles-clause-turned g c =
    let old = c.args.self.now in
    let m = fast_machine_of old in
    let sys = system_by old.core.geometry.platform c.args.code.now in
    let place = c.args.place in
    let t = turn_of sys m place in
    let rest = c.args.until - m.time in
    let cycles : c.switch_cycles-cycles.result ≡ t.switch_left =
    c.switch_cycles-cycles.ensures sys old.core.cache old.core.memory refl in
    let all : m.time + rest ≡ c.args.until = omega (arith, c.requires.before) in
    let enough : rest ≤ t.switch_left = omega (arith, c.if-rest-cycles.true, cycles) in
    let u = record t { switch_left = t.switch_left - rest } in
    let moved : HasMoved sys m.time c.args.until t u =
    subst (λ n. HasMoved sys m.time n t u) all
    (switches_by sys m.time t rest enough (ap is_open c.requires.open)) in
    record {
      turns =
          comes_by sys m _ place c.args.until c.args.until u moved c.requires.before (omega arith)
          (ap (λ k. record {
            time = c.args.until;
            cache = m.cache;
            memory = m.memory;
            owner = Some place;
            switch_left = k - rest;
            jobs = m.jobs;
          }) cycles
          ∙ ap (λ js. record {
            time = c.args.until;
            cache = m.cache;
            memory = m.memory;
            owner = Some place;
            switch_left = t.switch_left - rest;
            jobs = js;
          }) (sym (set-get_or m.jobs place no_job)));
      geometry = refl;
      completions = refl;
      queue = refl;
    }

pub returns-clause-turned : goal.returns-clause-turned
returns-clause-turned g c =
    let old = c.args.self.now in
    let m = fast_machine_of old in
    let sys = system_by old.core.geometry.platform c.args.code.now in
    let place = c.args.place in
    let t = turn_of sys m place in
    let k = c.switch_cycles-cycles.result in
    let cycles : k ≡ t.switch_left = c.switch_cycles-cycles.ensures sys old.core.cache
    old.core.memory refl in
    let time = c.in_ok-self.field-0 in
    let own : c.index_mut-job.result.now ≡ job_at m.jobs place =
    c.index_mut-job.ensures.value
    ∙ get_or_default m.jobs place c.index_mut-job.result.now no_job c.requires.below in
    let u = turn_by c.run.new.self.cache c.run.new.self.memory 0 c.run.new.job in
    let none : t.switch_left - k ≡ 0 = omega (arith, cycles) in
    let first : HasMoved sys m.time (m.time + k) t
    (turn_by m.cache m.memory 0 (job_at m.jobs place)) =
    subst (λ n. HasMoved sys m.time (m.time + k) t (record t { switch_left = n })) none
    (switches_by sys m.time t k (omega (arith, cycles)) (ap is_open c.requires.open)) in
    let second : HasMoved sys (m.time + k) time (turn_by m.cache m.memory 0 (job_at m.jobs place))
    u =
    subst (λ (j : Job). HasMoved sys (m.time + k) time (turn_by m.cache m.memory 0 j) u) own
    c.in_ok-self.ensures.moved in
    let moved = moves_on sys m.time (m.time + k) time t
    (turn_by m.cache m.memory 0 (job_at m.jobs place)) u first second in
    record {
      turns =
          comes_by sys m _ place c.args.until time u moved
          (omega (arith, c.in_ok-self.ensures.later)) c.in_ok-self.ensures.within refl;
      geometry = c.in_ok-self.ensures.geometry;
      completions = refl;
      queue = refl;
    }

-- what its moves require
pub plan-plan-requires : goal.plan-plan-requires
plan-plan-requires g c =
    let jobs = c.args.self.now.schedule.jobs.items in
    let own : c.index_mut-job.result.now ≡ job_at jobs c.args.place =
    c.index_mut-job.ensures.value
    ∙ get_or_default jobs c.args.place c.index_mut-job.result.now no_job c.requires.below in
    rw (c.task.ensures, own) c.requires.plan.task

pub run-requires-clause-own_plan : goal.run-requires-clause-own_plan
run-requires-clause-own_plan g c =
    let sys = system_by c.args.self.now.core.geometry.platform c.args.code.now in
    plan_is sys c.index_mut-job.result.now.line.task.0 c.plan-plan.result.now
    (rw c.task.ensures at c.plan-plan.ensures)

pub run-requires-clause-flagged : goal.run-requires-clause-flagged
run-requires-clause-flagged g c K =
    let m = fast_machine_of c.args.self.now in
    let own : c.index_mut-job.result.now ≡ job_at m.jobs c.args.place =
    c.index_mut-job.ensures.value
    ∙ get_or_default m.jobs c.args.place c.index_mut-job.result.now no_job c.requires.below in
    ap (λ (j : Job). is_unbroken j.watch) own ∙ c.requires.flagged K

pub run-requires-clause-before_from : goal.run-requires-clause-before_from
run-requires-clause-before_from g c =
    let o = c.args.observer.now in
    let s = g.O.Observer.start (g.O.Observer.observed o) in
    let old = c.args.self.now in
    let m = fast_machine_of old in
    let sys = system_by old.core.geometry.platform c.args.code.now in
    let t = turn_of sys m c.args.place in
    let k = c.switch_cycles-cycles.result in
    let cycles : k ≡ t.switch_left = c.switch_cycles-cycles.ensures sys old.core.cache
    old.core.memory refl in
    passed s (g.O.Observer.has_observed o) (g.met.O.Observer.passes o) m.time k
    (unfetched_switch s c.args.place m.time c.args.until k t old.core.kept c.requires.turns_at
    (omega (arith, c.if-rest-cycles.false, c.requires.before)) (omega (arith, cycles))
    (ap is_open c.requires.open))
    c.requires.before_steps

pub run-requires-clause-turns_at : goal.run-requires-clause-turns_at
run-requires-clause-turns_at g c =
    let s = g.O.Observer.start (g.O.Observer.observed c.args.observer.now) in
    let old = c.args.self.now in
    let m = fast_machine_of old in
    let sys = system_by old.core.geometry.platform c.args.code.now in
    let place = c.args.place in
    let t = turn_of sys m place in
    let k = c.switch_cycles-cycles.result in
    let cycles : k ≡ t.switch_left = c.switch_cycles-cycles.ensures sys old.core.cache
    old.core.memory refl in
    let own : c.index_mut-job.result.now ≡ job_at m.jobs place =
    c.index_mut-job.ensures.value
    ∙ get_or_default m.jobs place c.index_mut-job.result.now no_job c.requires.below in
    let none : t.switch_left - k ≡ 0 = omega (arith, cycles) in
    let u = turn_by m.cache m.memory 0 c.index_mut-job.result.now in
    let first : HasMoved s.system m.time (m.time + k) t u =
    subst (λ (j : Job). HasMoved s.system m.time (m.time + k) t (turn_by m.cache m.memory 0 j))
    (sym own)
    (subst (λ n. HasMoved s.system m.time (m.time + k) t (record t { switch_left = n })) none
    (switches_by s.system m.time t k (omega (arith, cycles)) (ap is_open c.requires.open))) in
    turns_on s place m.time (m.time + k) c.args.until t u old.core.kept old.core.kept first
    (λ K. (K, run-requires-clause-flagged g c K), λ both. both.0) c.requires.turns_at

-- what is observed, and the flag
pub returns-then-rest-cycles-clause-after : goal.returns-then-rest-cycles-clause-after
returns-then-rest-cycles-clause-after g c =
    let o = c.args.observer.now in
    let s = g.O.Observer.start (g.O.Observer.observed o) in
    let old = c.args.self.now in
    let m = fast_machine_of old in
    let sys = system_by old.core.geometry.platform c.args.code.now in
    let t = turn_of sys m c.args.place in
    let rest = c.args.until - m.time in
    let cycles : c.switch_cycles-cycles.result ≡ t.switch_left =
    c.switch_cycles-cycles.ensures sys old.core.cache old.core.memory refl in
    let all : m.time + rest ≡ c.args.until = omega (arith, c.requires.before) in
    subst (λ n. g.O.Observer.has_observed o n) all
    (passed s (g.O.Observer.has_observed o) (g.met.O.Observer.passes o) m.time rest
    (unfetched_switch s c.args.place m.time c.args.until rest t old.core.kept c.requires.turns_at
    (omega (arith, all)) (omega (arith, c.if-rest-cycles.true, cycles))
    (ap is_open c.requires.open))
    c.requires.before_steps)

pub returns-then-rest-cycles-clause-kept : goal.returns-then-rest-cycles-clause-kept
returns-then-rest-cycles-clause-kept g c = (λ K. (K, c.requires.flagged K), λ both. both.0)

pub returns-clause-kept : goal.returns-clause-kept
returns-clause-kept g c =
    let kept = c.args.self.now.core.kept in
    let own = get_or-set_same c.args.self.now.schedule.jobs.items c.args.place c.run.new.job no_job
    c.requires.below in
    subst (λ (j : Job). IsTrue c.run.new.self.kept
    ↔ (IsTrue kept × (is_unbroken j.watch ≡ true))) (sym own) c.in_ok-self.ensures.kept
