-- Several steps at once.
use Rattle.std.proofs.Common.{◌≡◌, ℕ, zero, suc, ◌+◌, ◌<◌, Option, refl, ◌∙◌, ap, arith}
use Rattle.icache.specs.declared.Geometry.{Geometry}
use Rattle.crpd_base.specs.declared.data.Platform.{Platform}
use Rattle.code_map.specs.Words.{Code}
use Rattle.preempt_machine.specs.declared.Fetch as told
use Rattle.preempt_machine.specs.declared.parts.Parts.{Parts}
use Rattle.preempt_machine.specs.Machine.{Machine}
use Rattle.preempt_machine.specs.Running.{Running, running_after_step, running_after_steps}
use Rattle.preempt_machine.specs.Running.{system_by}
use Rattle.preempt_machine.specs.Step.{step}
use Rattle.preempt_machine.specs.Inner.Parts.{machine_of, running_of, HasMade, HasStepped}
use Rattle.preempt_machine.proofs.Steps.{step_time}

by_time : (n : ℕ) (code : Code) (r : Running)
    → (running_after_steps n code r).state.time ≡ r.state.time + n
by_time zero code r = omega arith
by_time (suc n) code r =
    let one = step_time (system_by (running_after_steps n code r).platform code)
    (running_after_steps n code r).state in
    omega (arith, one, by_time n code r)

by_platform : (n : ℕ) (code : Code) (r : Running)
    → (running_after_steps n code r).platform ≡ r.platform
by_platform zero code r = refl
by_platform (suc n) code r = by_platform n code r

pub by_more : (n m : ℕ) (code : Code) (r : Running)
    → running_after_steps n code (running_after_steps m code r) ≡ running_after_steps (n + m) code r
by_more zero m code r =
    let same : m ≡ 0 + m = omega arith in ap (λ k. running_after_steps k code r) same
by_more (suc n) m code r =
    let more : suc (n + m) ≡ suc n + m = omega arith in
    ap (running_after_step code) (by_more n m code r) ∙ ap (λ k. running_after_steps k code r) more

pub made_time : (code : Code) (cycle : ℕ) (old new : Running) (h : HasMade code cycle old new)
    → new.state.time ≡ old.state.time + h.made
made_time code cycle old new h =
    ap (λ (r : Running). r.state.time) h.state ∙ by_time h.made code old

pub made_platform : (code : Code) (cycle : ℕ) (old new : Running) → HasMade code cycle old new
    → new.platform ≡ old.platform
made_platform code cycle old new h =
    ap (λ (r : Running). r.platform) h.state ∙ by_platform h.made code old

-- up to the next cycle there is one step
pub made_once : (code : Code) (old new : Running) → HasMade code (old.state.time + 1) old new
    → new ≡ running_after_step code old
made_once code old new h =
    let one : h.made ≡ suc zero = omega (arith, h.some, h.within) in
    h.state ∙ ap (λ n. running_after_steps n code old) one

-- a step of the parts is one of the steps of a machine
running : Platform → Machine → Option told.Fetch → Running
running p m f = record { platform = p; state = m; fetch = f }

pub one_made : (code : Code) (old new : Parts) (cycle : ℕ) → old.schedule.steps < cycle
    → HasStepped (system_by old.core.geometry.platform code) old new
    → HasMade code cycle (running_of old) (running_of new)
unfolding running
one_made code old new cycle less h =
    let sys = system_by old.core.geometry.platform code in
    record {
      made = suc zero;
      some = omega arith;
      within = omega arith;
      state = ap (λ (g : Geometry). running g.platform (machine_of new) new.fetch) h.geometry
          ∙ ap (λ (m : Machine). running old.core.geometry.platform m new.fetch) h.state
          ∙ ap (running old.core.geometry.platform (step sys (machine_of old))) h.fetch;
    }
