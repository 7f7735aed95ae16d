-- Arrivals that change nothing.
use Rattle.std.specs.Prelude.{◌≡◌, ℕ, ◌≤◌, ◌<◌, Bool, true, false, option_and_then}
use Rattle.flow_watch.specs.declared.Addresses.{Addresses}
use Rattle.crpd_base.specs.declared.data.TaskPlan.{TaskPlan}
use Rattle.rv_decode.specs.declared.Ins.{Ins}
use Rattle.rv_decode.specs.Flow.{Flow, Call, Return, OtherJalr, OtherJal}
use Rattle.flow_watch.specs.Watch.{Watch, arrive, step}

-- whether an instruction with this flow stays in its frame: it is followed, and neither calls nor
-- returns
abbrev pub stays : Flow → Bool
stays (Call t) = false
stays Return = false
stays OtherJalr = false
stays OtherJal = false
stays _ = true

-- a step by the instruction is the arrival alone
abbrev pub IsArrival : Ins → Type 0
IsArrival ins =
    (plan : TaskPlan) (w : Watch) (from to : ℕ)
    → step plan w from ins to ≡ option_and_then (arrive plan to) w

-- an arrival at the address does not change the watch
abbrev pub IsQuiet : TaskPlan → Watch → ℕ → Type 0
IsQuiet plan w a = option_and_then (arrive plan a) w ≡ w

-- the address is in the range
abbrev pub AreAmong : Addresses → ℕ → Type 0
AreAmong r a = (r.from ≤ a) × (a < r.until)

-- an arrival at each address of the range does not change the watch
abbrev pub AreQuiet : TaskPlan → Watch → Addresses → Type 0
AreQuiet plan w r = (a : ℕ) → r.from ≤ a → a < r.until → IsQuiet plan w a
