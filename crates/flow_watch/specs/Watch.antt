-- The watch: the monitor of a job's calls, returns and iterations of stated loops.
use Rattle.std.specs.Prelude.{ℕ, suc, Bool, true, false, ◌&&◌, ◌||◌, ◌==◌, nat_lt, nat_le}
use Rattle.std.specs.Prelude.{if◌then◌else◌, List, [], ◌∷◌, ◌++◌, length, map, Option, Some, None}
use Rattle.std.specs.List.{list_any}
use Rattle.crpd_base.specs.declared.data.LoopAt.{LoopAt}
use Rattle.crpd_base.specs.declared.data.TaskPlan.{TaskPlan}
use Rattle.rv_decode.specs.declared.Ins.{Ins}
use Rattle.rv_decode.specs.Address.{next_address, address_before, end_address}
use Rattle.rv_decode.specs.Flow.{Flow, Call, Return, OtherJalr, OtherJal, flow}

-- a call under way, or the job itself: its return address, and how often the head of each stated
-- loop was reached since the loop was entered, 0 for a loop that is not open
pub record Frame : Type 0 where
  pub back : ℕ
  pub turns : List ℕ

-- the frames, the innermost first, or None for a broken watch, which stays broken
abbrev pub Watch : Type 0
Watch = Option (List Frame)

-- whether a range has an address: the first included, the second excluded
abbrev pub in_range : ℕ → ℕ × ℕ → Bool
in_range a r = nat_le r.0 a && nat_lt a r.1

-- whether a loop holds an address: its head, and the addresses in its ranges
abbrev pub holds : LoopAt → ℕ → Bool
holds loop a = (a == loop.head) || list_any (in_range a) loop.ranges

-- a loop's iterations after an arrival at the address
abbrev pub iterations_after : ℕ → LoopAt → ℕ → ℕ
iterations_after a loop turns =
    if a == loop.head then suc turns else (if holds loop a then turns else 0)

-- the iterations of all stated loops
abbrev pub all_iterations_after : ℕ → List LoopAt → List ℕ → List ℕ
all_iterations_after a (loop ∷ loops) (t ∷ turns) =
    iterations_after a loop t ∷ all_iterations_after a loops turns
all_iterations_after a [] turns = []
all_iterations_after a (loop ∷ loops) [] = []

-- whether no loop has more iterations than its bound
abbrev pub within_bounds : List LoopAt → List ℕ → Bool
within_bounds (loop ∷ loops) (t ∷ turns) = nat_le t loop.bound && within_bounds loops turns
within_bounds [] turns = true
within_bounds (loop ∷ loops) [] = true

-- an arrival at an address; without a frame it changes nothing
abbrev pub arrive : TaskPlan → ℕ → List Frame → Watch
arrive plan a [] = Some []
arrive plan a (f ∷ frames) =
    let turns = all_iterations_after a plan.loops f.turns in
    if within_bounds plan.loops turns then Some (record { back = f.back; turns = turns } ∷ frames)
    else None

-- a frame with no loop open
abbrev pub new_frame : TaskPlan → ℕ → Frame
new_frame plan back = record { back = back; turns = map (λ l. 0) plan.loops }

-- the watch at the start of a job
abbrev pub start : TaskPlan → Watch
start plan = arrive plan plan.entry (new_frame plan end_address ∷ [])

-- a call, with at most sixteen frames above the bottom
abbrev pub call_step : TaskPlan → ℕ → ℕ → List Frame → Watch
call_step plan from to frames =
    if nat_lt (length frames) 17 then arrive plan to (new_frame plan (next_address from) ∷ frames)
    else None

-- a return, which is to the top frame's return address
abbrev pub return_step : TaskPlan → ℕ → List Frame → Watch
return_step plan to [] = None
return_step plan to (f ∷ frames) = if to == f.back then arrive plan to frames else None

-- a step of a watch that is not broken, by the flow of the instruction, from an address to the next
abbrev pub step_by_flow : TaskPlan → List Frame → ℕ → Flow → ℕ → Watch
step_by_flow plan frames from (Call t) to = call_step plan from to frames
step_by_flow plan frames from Return to = return_step plan to frames
step_by_flow plan frames from OtherJalr to = None
step_by_flow plan frames from OtherJal to = None
step_by_flow plan frames from _ to = arrive plan to frames

-- a step of a watch, by an instruction
unfoldable pub step : TaskPlan → Watch → ℕ → Ins → ℕ → Watch
step plan None from ins to = None
step plan (Some frames) from ins to = step_by_flow plan frames from (flow from ins) to

-- whether a watch is not broken
abbrev pub is_unbroken : Watch → Bool
is_unbroken None = false
is_unbroken (Some frames) = true

-- the address of the call to which a frame returns
abbrev pub call_of : Frame → ℕ
call_of f = address_before f.back

-- the addresses of the calls under way, the outermost first
abbrev pub calls_under_way : List Frame → List ℕ
calls_under_way [] = []
calls_under_way (f ∷ []) = []
calls_under_way (f ∷ frames) = calls_under_way frames ++ call_of f ∷ []

-- the same of a watch; a broken one has none
abbrev pub context : Watch → List ℕ
context None = []
context (Some frames) = calls_under_way frames
