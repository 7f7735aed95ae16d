-- Small runs, by computation.
use Rattle.std.proofs.Common.{◌≡◌, List, [], ◌∷◌, Some, None, refl, pos, ℕ}
use Rattle.crpd_base.specs.declared.data.TaskPlan.{TaskPlan}
use Rattle.rv_decode.specs.declared.Ins.TheVariants.{Jal, Jalr, Addi}
use Rattle.rv_decode.specs.Flow.{flow}
use Rattle.flow_watch.specs.Watch.{Watch, Frame, start, step, context}

abbrev plan : TaskPlan
plan = record {
  entry = 0xFFFFFFFC;
  stack = 0;
  global = 0;
  loops = record { head = 0; bound = 2; ranges = [] } ∷ [];
}

abbrev frame : ℕ → List ℕ → Frame
frame back turns = record { back = back; turns = turns }

-- a call from the last word of the address space returns to 0
abbrev called : Watch
called = step plan (start plan) 0xFFFFFFFC (Jal 1 (pos 4)) 0

called_frames : called ≡ Some (frame 0 (1 ∷ []) ∷ frame 0xFFFFFFFC (0 ∷ []) ∷ [])
unfolding step flow
called_frames = refl

called_from : context called ≡ 0xFFFFFFFC ∷ []
unfolding step flow
called_from = refl

returned : step plan called 0 (Jalr 0 1 (pos 0)) 0 ≡ Some (frame 0xFFFFFFFC (1 ∷ []) ∷ [])
unfolding step flow
returned = refl

-- the next address wraps as well; a return to a wrong address, any other indirect jump and any
-- other link break the watch
went_on : step plan (start plan) 0xFFFFFFFC (Addi 0 0 (pos 0)) 0
    ≡ Some (frame 0xFFFFFFFC (1 ∷ []) ∷ [])
unfolding step flow
went_on = refl

returned_elsewhere : step plan called 0 (Jalr 0 1 (pos 0)) 4 ≡ None
unfolding step flow
returned_elsewhere = refl

other_jump : step plan called 0 (Jalr 0 5 (pos 0)) 0 ≡ None
unfolding step flow
other_jump = refl

other_link : step plan called 0 (Jal 5 (pos 4)) 4 ≡ None
unfolding step flow
other_link = refl

-- the bottom frame returns to the return address of jobs, and then no frame is left
ended : step plan (start plan) 0xFFFFFFFC (Jalr 0 1 (pos 0)) 0xFFFFFFFC ≡ Some []
unfolding step flow
ended = refl
