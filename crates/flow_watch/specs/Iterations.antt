-- For which plans a watch is made.
use Rattle.std.specs.Prelude.{◌≡◌, ℕ, length, All, Some, None}
use Rattle.flow_watch.specs.Watch.{Frame, Watch}

-- a watch for plans with that many stated loops: each frame has a count for each of them
abbrev pub HasIterations : ℕ → Watch → Type 0
HasIterations loops None = Unit {0}
HasIterations loops (Some frames) = All (λ (f : Frame). length f.turns ≡ loops) frames
