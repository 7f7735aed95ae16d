-- Inner definitions: arrivals that change nothing.
use Rattle.std.specs.Prelude.{◌≡◌, ℕ, ◌≤◌, true, List}
use Rattle.crpd_base.specs.declared.data.LoopAt.{LoopAt}
use Rattle.flow_watch.specs.Watch.{iterations_after, all_iterations_after, within_bounds}

-- an arrival at the address does not change a loop's iterations, and they are within its bound
pub record KeepsIterations (a : ℕ) (loop : LoopAt) (turns : ℕ) : Type 0 where
  pub same : iterations_after a loop turns ≡ turns
  pub within : turns ≤ loop.bound

-- an arrival does not change the iterations of any loop, and they are within their bounds
pub record KeepsAllIterations (a : ℕ) (loops : List LoopAt) (turns : List ℕ) : Type 0 where
  pub same : all_iterations_after a loops turns ≡ turns
  pub within : within_bounds loops turns ≡ true
