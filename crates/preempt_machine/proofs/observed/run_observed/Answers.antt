use Rattle.std.proofs.Common.{◌≡◌, refl, ◌∙◌, sym, ap, subst, arith}
use Rattle.preempt_machine.specs.Starts.{script_end_state, start_of_script}
use Rattle.preempt_machine.specs.Step.{state, Start}
use Rattle.preempt_machine.specs.Outcome.{IsOutcome}
use Rattle.preempt_machine.specs.Inner.Stretches.{fast_machine_of, RunsAs}
use Rattle.preempt_machine.proofs.Starting.{ends_are}
use Rattle.preempt_machine.proofs.observed.run_observed.Goals as goal

pub make_fast_steps-requires-clause-runs : goal.make_fast_steps-requires-clause-runs
make_fast_steps-requires-clause-runs g c =
    let Run = g.O.Observer.Run in
    let start = ap (λ (r : Run). g.O.Observer.start r) c.loop-parts.invariant.same
    ∙ c.requires.start in
    subst (λ (s : Start). RunsAs s c.args.code.now c.loop-parts.parts) (sym start)
    c.loop-parts.invariant.runs

pub loop-parts-smaller : goal.loop-parts-smaller
loop-parts-smaller g c =
    omega (arith, c.in_ok-make_fast_steps.ensures.later, c.loop-parts-test.true)

pub loop-parts-init : goal.loop-parts-init
loop-parts-init g c =
    record {
      runs = c.in_ok-parts.ensures.runs;
      within = omega (arith, c.in_ok-parts.ensures.steps);
      observed = rw c.in_ok-parts.ensures.steps c.requires.nothing;
      same = refl;
    }

pub loop-parts-preserved : goal.loop-parts-preserved
loop-parts-preserved g c =
    let Run = g.O.Observer.Run in
    let h = c.loop-parts.invariant in
    let start = ap (λ (r : Run). g.O.Observer.start r) h.same ∙ c.requires.start in
    record {
      runs =
          subst (λ (s : Start). RunsAs s c.args.code.now c.make_fast_steps.new.self) start
          c.in_ok-make_fast_steps.ensures.runs;
      within = c.in_ok-make_fast_steps.ensures.within;
      observed = c.in_ok-make_fast_steps.ensures.after;
      same = c.in_ok-make_fast_steps.ensures.same ∙ h.same;
    }

pub returns-clause-outcome : goal.returns-clause-outcome
returns-clause-outcome g c =
    let code = c.args.code.now in
    let script = c.args.script.now in
    let parts = c.loop-parts.parts in
    let h = c.loop-parts.invariant in
    let all : parts.schedule.steps ≡ script.cycles =
    omega (arith, h.within, c.loop-parts-test.false) in
    let there : fast_machine_of parts ≡ script_end_state c.args.set.now code script =
    h.runs.state ∙ ap (state (start_of_script c.args.set.now code script)) all in
    subst (λ n. IsOutcome n parts.schedule.completions.items parts.core.kept) there
    (record {
      long = h.runs.machine.told;
      ends =
          ends_are (fast_machine_of parts) parts.schedule.completions.items h.runs.machine.told
          h.runs.machine.completions;
      each = h.runs.machine.completions;
      kept_so = h.runs.kept;
    })

pub returns-clause-all : goal.returns-clause-all
returns-clause-all g c =
    let parts = c.loop-parts.parts in
    let h = c.loop-parts.invariant in
    let all : parts.schedule.steps ≡ c.args.script.now.cycles =
    omega (arith, h.within, c.loop-parts-test.false) in
    subst (λ n. g.O.Observer.has_observed c.loop-parts.observer n) all h.observed
