-- Inner definitions: a step of a watch in two parts, the change of its frames and the arrival.
use Rattle.std.specs.Prelude.{ℕ, ◌==◌, nat_lt, if◌then◌else◌, List, [], ◌∷◌, length, Some, None}
use Rattle.crpd_base.specs.declared.data.TaskPlan.{TaskPlan}
use Rattle.rv_decode.specs.Address.{next_address}
use Rattle.rv_decode.specs.Flow.{Flow, Call, Return, OtherJalr, OtherJal}
use Rattle.flow_watch.specs.declared.changes.Change.{Change}
use Rattle.flow_watch.specs.declared.changes.Change.TheVariants.{Stay, Push, Pop, Unfollowed}
use Rattle.flow_watch.specs.Watch.{Frame, Watch, new_frame}

-- the change of the frames by an instruction, from its kind of flow
abbrev pub change_of : Flow → Change
change_of (Call t) = Push
change_of Return = Pop
change_of OtherJalr = Unfollowed
change_of OtherJal = Unfollowed
change_of _ = Stay

-- the frames after a call at an address, with at most sixteen above the bottom
abbrev pub frames_after_call : TaskPlan → ℕ → List Frame → Watch
frames_after_call plan from frames =
    if nat_lt (length frames) 17 then Some (new_frame plan (next_address from) ∷ frames) else None

-- the frames after a return, which is to the top frame's return address
abbrev pub frames_after_return : ℕ → List Frame → Watch
frames_after_return to [] = None
frames_after_return to (f ∷ frames) = if to == f.back then Some frames else None
