use Rattle.std.proofs.Common.{◌≡◌, ◌+◌, ◌-◌, ◌<◌, inl, inr, sym, ◌∙◌, ap, arith}
use Rattle.preempt_machine.specs.Step.{fetch_at, state}
use Rattle.preempt_machine.specs.Inner.Stretches.{fast_machine_of}
use Rattle.preempt_machine.proofs.Idling.{kept_idle, next_is_later, none_before}
use Rattle.preempt_machine.proofs.StretchLaws.{idle_law}
use Rattle.preempt_machine.proofs.Observing.{idle_fetch, later_state}
use Rattle.preempt_machine.proofs.stretches.FastParts.idle.Goals as goal

pub returns-clause-later : goal.returns-clause-later
returns-clause-later c s R =
    let m = fast_machine_of c.args.self.now in
    elim c.next_release-self.ensures.one [
      | inl e ↦ omega (arith, e, c.requires.before)
      | inr (inside, e) ↦
          omega (arith, e, next_is_later _ m _ _ _ _ _ R.machine c.requires.idle inside)
    ]

pub returns-clause-runs : goal.returns-clause-runs
returns-clause-runs c s R =
    let m = fast_machine_of c.args.self.now in
    let next = c.next_release-self.ensures in
    let time = c.next_release-self.result in
    let later : m.time < time = returns-clause-later c s R in
    let all : time ≡ m.time + (time - m.time) = omega (arith, later) in
    record {
      system = R.system;
      state = ap (λ n. record m { time = n }) all
          ∙ sym (idle_law s.system m (time - m.time)
          (λ j l. none_before _ m _ _ _ _ _ (m.time + j) R.machine c.requires.idle
          (λ inside. omega (arith, next.before inside, later, l))))
          ∙ sym (later_state s m (time - m.time) R.state) ∙ ap (state s) (sym all);
      machine =
          kept_idle _ m _ _ _ _ _ time R.machine (omega (arith, later)) next.before;
      run = record { plans = R.run.plans; decoded = R.run.decoded };
      kept = R.kept;
    }

pub returns-clause-none : goal.returns-clause-none
returns-clause-none c s R n from before =
    let m = fast_machine_of c.args.self.now in
    let next = c.next_release-self.ensures in
    let time = c.next_release-self.result in
    let e : m.time + (n - m.time) ≡ n = omega (arith, from) in
    ap (fetch_at s) (sym e)
    ∙ idle_fetch s m (time - m.time) R.state
    (λ j l. none_before _ m _ _ _ _ _ (m.time + j) R.machine c.requires.idle
    (λ inside. omega (arith, next.before inside, l))) (n - m.time) (omega (arith, from, before))
