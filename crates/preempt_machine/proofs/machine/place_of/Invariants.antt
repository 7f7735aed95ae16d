use Rattle.std.proofs.Common.{◌≡◌, ℕ, ◌<◌}
use Rattle.preempt_machine.specs.Schedule.{completion}
use Rattle.preempt_machine.proofs.machine.place_of.Given as goal

abbrev pub invariant-loop-place : goal.invariant-loop-place
invariant-loop-place l = (u : ℕ) → u < l.place → (completion l.completions u).job ≡ l.job → ⊥
