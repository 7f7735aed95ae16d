-- A step of a watch in two parts: the change of its frames, then the arrival.
use Rattle.std.proofs.Common.{◌≡◌, ℕ, ◌==◌, nat_lt, Bool, true, false, if◌then◌else◌, List, [], ◌∷◌}
use Rattle.std.proofs.Common.{length, Some, None, option_and_then, inl, inr, refl, sym, ◌∙◌, ap}
use Rattle.std.proofs.lemmas.Bool.{cases_Bool}
use Rattle.std.proofs.lemmas.List.Elements.{All-tail}
use Rattle.crpd_base.specs.declared.data.TaskPlan.{TaskPlan}
use Rattle.rv_decode.specs.declared.Ins.{Ins}
use Rattle.rv_decode.specs.Address.{next_address}
use Rattle.rv_decode.specs.Flow.{Flow, Plain, Branch, Jump, Call, Return, Exit, Break, OtherJalr}
use Rattle.rv_decode.specs.Flow.{OtherJal, flow}
use Rattle.flow_watch.specs.declared.changes.Change.{Change}
use Rattle.flow_watch.specs.declared.changes.Change.TheVariants.{Stay, Push, Pop, Unfollowed}
use Rattle.flow_watch.specs.Watch.{Frame, Watch, all_iterations_after, within_bounds, arrive}
use Rattle.flow_watch.specs.Watch.{new_frame, step_by_flow, step}
use Rattle.flow_watch.specs.Iterations.{HasIterations}
use Rattle.flow_watch.specs.Inner.Changes.{change_of, frames_after_call, frames_after_return}

-- the frames after a change
abbrev pub changed : TaskPlan → ℕ → ℕ → Change → List Frame → Watch
changed plan from to Stay frames = Some frames
changed plan from to Push frames = frames_after_call plan from frames
changed plan from to Pop frames = frames_after_return to frames
changed plan from to Unfollowed frames = None

-- an arrival after a choice between frames and a broken watch
then_arrives :
    (plan : TaskPlan) (to : ℕ) (frames : List Frame) (b : Bool) →
    (if b then arrive plan to frames else None)
    ≡ option_and_then (arrive plan to) (if b then Some frames else None)
then_arrives plan to frames true = refl
then_arrives plan to frames false = refl

moved_by :
    (plan : TaskPlan) (from to : ℕ) (frames : List Frame) (f : Flow) →
    step_by_flow plan frames from f to
    ≡ option_and_then (arrive plan to) (changed plan from to (change_of f) frames)
moved_by plan from to frames Plain = refl
moved_by plan from to frames (Branch t) = refl
moved_by plan from to frames (Jump t) = refl
moved_by plan from to frames (Call t) =
    then_arrives plan to (new_frame plan (next_address from) ∷ frames) (nat_lt (length frames) 17)
moved_by plan from to [] Return = refl
moved_by plan from to (f ∷ frames) Return = then_arrives plan to frames (to == f.back)
moved_by plan from to frames Exit = refl
moved_by plan from to frames Break = refl
moved_by plan from to frames OtherJalr = refl
moved_by plan from to frames OtherJal = refl

pub stepped :
    (plan : TaskPlan) (from : ℕ) (ins : Ins) (to : ℕ) (w : Watch) (c : Change) →
    ((a : ℕ) → c ≡ change_of (flow a ins)) →
    step plan w from ins to ≡ option_and_then (arrive plan to)
    (option_and_then (changed plan from to c) w)
unfolding step
stepped plan from ins to None c is = refl
stepped plan from ins to (Some frames) c is =
    moved_by plan from to frames (flow from ins)
    ∙ ap (λ (d : Change). option_and_then (arrive plan to) (changed plan from to d frames))
    (sym (is from))

-- a return does not change the iterations of the frames below
pub has_turns-popped :
    (m to : ℕ) (w : Watch) → HasIterations m w
    → HasIterations m (option_and_then (frames_after_return to) w)
has_turns-popped m to None has = tt
has_turns-popped m to (Some []) has = tt
has_turns-popped m to (Some (f ∷ frames)) has =
    let below : HasIterations m (Some frames) =
    All-tail (λ (g : Frame). length g.turns ≡ m) f frames has in
    elim (cases_Bool (to == f.back)) [ inl e ↦ rw e below | inr e ↦ rw e tt ]

-- a watch that does not change its frames, and one that breaks
pub stays : (plan : TaskPlan) (from to : ℕ) (w : Watch)
    → w ≡ option_and_then (changed plan from to Stay) w
stays plan from to None = refl
stays plan from to (Some frames) = refl

pub breaks : (plan : TaskPlan) (from to : ℕ) (w : Watch)
    → None ≡ option_and_then (changed plan from to Unfollowed) w
breaks plan from to None = refl
breaks plan from to (Some frames) = refl

not_empty :
    {P : Type 0} (b : Bool) (f : Frame) (frames : List Frame) →
    ◌≡◌ {A = Watch} (if b then Some (f ∷ frames) else None) (Some []) → P
not_empty true f frames e = cc
not_empty false f frames e = cc

-- an arrival does not leave a watch without frames
pub arrived_from :
    (plan : TaskPlan) (a : ℕ) (w : Watch) → option_and_then (arrive plan a) w ≡ Some []
    → w ≡ Some []
arrived_from plan a None e = e
arrived_from plan a (Some []) e = refl
arrived_from plan a (Some (f ∷ frames)) e =
    let turns : List ℕ = all_iterations_after a plan.loops f.turns in
    not_empty (within_bounds plan.loops turns) (record { back = f.back; turns = turns }) frames e

-- neither does a call
pub pushed_some : (plan : TaskPlan) (from : ℕ) (w : Watch)
    → option_and_then (frames_after_call plan from) w ≡ Some [] → ⊥
pushed_some plan from None e = cc
pushed_some plan from (Some frames) e =
    not_empty (nat_lt (length frames) 17) (new_frame plan (next_address from)) frames e

-- a broken watch stays broken
pub step_none : (plan : TaskPlan) (from : ℕ) (ins : Ins) (to : ℕ)
    → step plan None from ins to ≡ None
unfolding step
step_none plan from ins to = refl
