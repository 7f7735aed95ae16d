-- When there is no certificate with the plain union delays.
use Rattle.std.specs.Prelude.{ℕ}
use Rattle.crpd_base.specs.declared.data.TaskSet.{TaskSet}
use Rattle.loop_regions.specs.TaskGraph.{TaskGraph}
use Rattle.cert_build.specs.Certify.{IsRefusedBy}
use Rattle.cert_build.specs.declared.error.BuildError.{BuildError}
use Rattle.delay_classic.specs.Demand.{classic_demands}

-- the condition of each error: those of the analyses; otherwise the first task without a window
abbrev pub IsClassicError : TaskSet → (ℕ → TaskGraph) → BuildError → Type 0
IsClassicError set = IsRefusedBy set (classic_demands set)
