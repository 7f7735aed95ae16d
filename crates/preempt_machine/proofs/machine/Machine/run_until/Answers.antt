use Rattle.std.proofs.Common.{◌≡◌, ℕ, ◌+◌, ◌-◌, ◌∙◌, ap, arith}
use Rattle.preempt_machine.specs.Running.{running_after_steps}
use Rattle.preempt_machine.proofs.SeveralSteps.{by_more, made_platform, made_time}
use Rattle.preempt_machine.proofs.machine.Machine.run_until.Goals as goal

pub loop-self-preserved : goal.loop-self-preserved
loop-self-preserved c =
    let code = c.args.code.now in
    let first = c.args.self.now in
    let now = c.loop-self.self in
    let next = c.advance.new.self in
    let h = c.loop-self.invariant in
    let done = c.in_ok-advance.ensures.ok in
    let before = now.state.time - first.state.time in
    let time : next.state.time ≡ now.state.time + done.made =
    made_time code c.args.cycle now next done in
    let less = c.loop-self-test.true in
    let count : done.made + before ≡ next.state.time - first.state.time =
    omega (arith, time, h.from) in
    record {
      from = omega (arith, time, h.from);
      to = λ w. omega (arith, time, done.within);
      past = λ w. absurd (omega (arith, h.past w, less, c.steps.ensures));
      state =
          done.state ∙ ap (running_after_steps done.made code) h.state
          ∙ by_more done.made before code first
          ∙ ap (λ (n : ℕ). running_after_steps n code first) count;
      platform = made_platform code c.args.cycle now next done ∙ h.platform;
      plans = c.in_ok-advance.ensures.plans;
    }

pub loop-self-smaller : goal.loop-self-smaller
loop-self-smaller c =
    let done = c.in_ok-advance.ensures.ok in
    let time = made_time c.args.code.now c.args.cycle c.loop-self.self c.advance.new.self done in
    omega (arith, time, done.some, c.loop-self-test.true, c.steps.ensures)
