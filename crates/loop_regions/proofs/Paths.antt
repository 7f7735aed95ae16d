-- The law on steps without loops: without its stated loops the watch takes the same steps.
use Rattle.std.proofs.Common.{◌≡◌, ℕ, true, false, List, [], ◌∷◌, ◌++◌, Some, None, refl, sym, ◌∙◌}
use Rattle.std.proofs.Common.{ap, inl, inr, arith, ◌==◌, nat_lt, length}
use Rattle.std.proofs.lemmas.Bool.{cases_Bool, false≢true}
use Rattle.flow_watch.proofs.Steps.{step_none}
use Rattle.crpd_base.specs.declared.data.TaskPlan.{TaskPlan}
use Rattle.rv_decode.specs.declared.Ins.{Ins}
use Rattle.rv_decode.specs.Address.{next_address, end_address}
use Rattle.rv_decode.specs.Flow.{Flow, Plain, Branch, Jump, Call, Return, Exit, Break, OtherJalr}
use Rattle.rv_decode.specs.Flow.{OtherJal, flow, Words}
use Rattle.flat_graph.specs.Graph.{Graph, Places}
use Rattle.flow_watch.specs.Watch.{Frame, Watch, all_iterations_after, within_bounds, arrive}
use Rattle.flow_watch.specs.Watch.{new_frame, step_by_flow, step as watch_step, is_unbroken}
use Rattle.flow_watch.specs.Watch.{calls_under_way, call_of, context}
use Rattle.loop_regions.specs.Nest.{Nest}
use Rattle.loop_regions.specs.Stated.{IsRegions}
use Rattle.loop_regions.specs.Steps.{Step, address_after, watch_after, node_after, nodes_along}
use Rattle.loop_regions.specs.Steps.{IsWalkOf, IsKeptWalkOf, IsGoingOn, AnswersAfter, exits}
use Rattle.loop_regions.specs.Steps.{returns, PathLaw, PathEndLaw, ReturnLaw}
use Rattle.loop_regions.proofs.Steps.{step_some, kept_before, kept_walk_of, answering_walk}
use Rattle.loop_regions.proofs.Steps.{returned}

-- the plan, the nest and the frames without loops
abbrev bare : TaskPlan → TaskPlan
bare plan = record plan { loops = [] }

abbrev pub no_nest : Nest
no_nest = record { size = 0; head = λ r. 0; bound = λ r. 0; holds = λ r y. false }

strip : List Frame → List Frame
strip [] = []
strip (f ∷ fs) = record { back = f.back; turns = [] } ∷ strip fs

length_strip : (frames : List Frame) → length (strip frames) ≡ length frames
unfolding strip
length_strip [] = refl
length_strip (f ∷ fs) = omega (arith, length_strip fs)

calls_strip : (frames : List Frame) → calls_under_way (strip frames) ≡ calls_under_way frames
unfolding strip
calls_strip [] = refl
calls_strip (f ∷ []) = refl
calls_strip (f ∷ h ∷ fs) = ap (λ c. c ++ call_of f ∷ []) (calls_strip (h ∷ fs))

strip_empty : (frames : List Frame) → strip frames ≡ [] → frames ≡ []
unfolding strip
strip_empty [] e = refl
strip_empty (f ∷ fs) e = absurd (let x = e in cc)

arrive_strip : (plan : TaskPlan) (a : ℕ) (frames r : List Frame) → arrive plan a frames ≡ Some r
    → arrive (bare plan) a (strip frames) ≡ Some (strip r)
unfolding strip
arrive_strip plan a [] r e = let same : [] ≡ r = cc in ap (λ x. Some (strip x)) same
arrive_strip plan a (f ∷ fs) r e =
    elim (cases_Bool (within_bounds plan.loops (all_iterations_after a plan.loops f.turns))) [
      | inl b ↦
          let same : record { back = f.back; turns = all_iterations_after a plan.loops f.turns }
          ∷ fs ≡ r = let q = rw b at e in cc in
          ap (λ x. Some (strip x)) same
      | inr b ↦ absurd (let q = rw b at e in cc)
    ]

moved_strip : (plan : TaskPlan) (frames : List Frame) (from : ℕ) (f : Flow) (to : ℕ)
    (r : List Frame) → step_by_flow plan frames from f to ≡ Some r
    → step_by_flow (bare plan) (strip frames) from f to ≡ Some (strip r)
unfolding strip
moved_strip plan frames from Plain to r e = arrive_strip plan to frames r e
moved_strip plan frames from (Branch t) to r e = arrive_strip plan to frames r e
moved_strip plan frames from (Jump t) to r e = arrive_strip plan to frames r e
moved_strip plan frames from (Call t) to r e =
    elim (cases_Bool (nat_lt (length frames) 17)) [
      | inl b ↦
          let room : nat_lt (length (strip frames)) 17 ≡ true =
          ap (λ k. nat_lt k 17) (length_strip frames) ∙ b in
          rw room (arrive_strip plan to (new_frame plan (next_address from) ∷ frames) r (rw b at e))
      | inr b ↦ absurd (let q = rw b at e in cc)
    ]
moved_strip plan [] from Return to r e = absurd (let q = e in cc)
moved_strip plan (f ∷ fs) from Return to r e =
    elim (cases_Bool (to == f.back)) [
      | inl b ↦ rw b (arrive_strip plan to fs r (rw b at e))
      | inr b ↦ absurd (let q = rw b at e in cc)
    ]
moved_strip plan frames from Exit to r e = arrive_strip plan to frames r e
moved_strip plan frames from Break to r e = arrive_strip plan to frames r e
moved_strip plan frames from OtherJalr to r e = absurd (let q = e in cc)
moved_strip plan frames from OtherJal to r e = absurd (let q = e in cc)

step_strip : (plan : TaskPlan) (w bare_w : Watch) (from : ℕ) (ins : Ins) (to : ℕ) (r : List Frame)
    → ((frames : List Frame) → w ≡ Some frames → bare_w ≡ Some (strip frames))
    → watch_step plan w from ins to ≡ Some r
    → watch_step (bare plan) bare_w from ins to ≡ Some (strip r)
step_strip plan None bare_w from ins to r before e =
    absurd (let q : None ≡ Some r = sym (step_none plan from ins to) ∙ e in cc)
step_strip plan (Some frames) bare_w from ins to r before e =
    ap (λ w. watch_step (bare plan) w from ins to) (before frames refl)
    ∙ step_some (bare plan) (strip frames) from ins to
    ∙ moved_strip plan frames from (flow from ins) to r
    (sym (step_some plan frames from ins to) ∙ e)

watch_strip : (plan : TaskPlan) (steps : List Step) (frames : List Frame)
    → watch_after plan steps ≡ Some frames → watch_after (bare plan) steps ≡ Some (strip frames)
unfolding strip
watch_strip plan [] frames e =
    arrive_strip plan plan.entry (new_frame plan end_address ∷ []) frames e
watch_strip plan (s ∷ earlier) frames e =
    step_strip plan (watch_after plan earlier) (watch_after (bare plan) earlier) s.from s.ins s.to
    frames (watch_strip plan earlier) e

some_frames : (w : Watch) → is_unbroken w ≡ true → (frames : List Frame) × (w ≡ Some frames)
some_frames None k = absurd (false≢true k)
some_frames (Some frames) k = (frames, refl)

context_strip : (plan : TaskPlan) (steps : List Step) → is_unbroken (watch_after plan steps) ≡ true
    → context (watch_after (bare plan) steps) ≡ context (watch_after plan steps)
context_strip plan steps k =
    let has = some_frames (watch_after plan steps) k in
    ap context (watch_strip plan steps has.0 has.1) ∙ calls_strip has.0 ∙ ap context (sym has.1)

node_strip : (plan : TaskPlan) (steps : List Step) → is_unbroken (watch_after plan steps) ≡ true
    → node_after (bare plan) steps ≡ node_after plan steps
node_strip plan steps k =
    let c : context (watch_after (bare plan) steps) ≡ context (watch_after plan steps) =
    context_strip plan steps k in
    λ i. record { context = c i; address = address_after plan.entry steps }

nodes_strip : (plan : TaskPlan) (steps : List Step) → is_unbroken (watch_after plan steps) ≡ true
    → nodes_along (bare plan) steps ≡ nodes_along plan steps
nodes_strip plan [] k = ap (λ m. m ∷ []) (node_strip plan [] k)
nodes_strip plan (s ∷ earlier) k =
    let first = node_strip plan (s ∷ earlier) k in
    let others = nodes_strip plan earlier
    (kept_before plan (watch_after plan earlier) s.from s.ins s.to k) in
    λ i. first i ∷ others i

kept_strip : (plan : TaskPlan) (steps : List Step) → is_unbroken (watch_after plan steps) ≡ true
    → is_unbroken (watch_after (bare plan) steps) ≡ true
kept_strip plan steps k =
    let has = some_frames (watch_after plan steps) k in
    ap is_unbroken (watch_strip plan steps has.0 has.1)

going_strip : (plan : TaskPlan) (steps : List Step) → IsGoingOn plan steps
    → IsGoingOn (bare plan) steps
going_strip plan steps on =
    let has = some_frames (watch_after plan steps) on.kept in
    record {
      kept = kept_strip plan steps on.kept;
      has_frame = λ e.
          let none : strip has.0 ≡ [] = let both = sym (watch_strip plan steps has.0 has.1) ∙ e in
          cc in
          on.has_frame (has.1 ∙ ap Some (strip_empty has.0 none));
    }

returned_strip : (plan : TaskPlan) (steps : List Step) → watch_after plan steps ≡ Some []
    → watch_after (bare plan) steps ≡ Some []
unfolding strip
returned_strip plan steps e = watch_strip plan steps [] e

answer_strip : (words : Words) (plan : TaskPlan) (steps : List Step) → AnswersAfter words plan steps
    → AnswersAfter words (bare plan) steps
answer_strip words plan steps (exits ins registers S answer kept) =
    exits ins registers S answer (kept_strip plan steps kept)
answer_strip words plan steps (returns last is from e) =
    returns last is from (returned_strip plan (last ∷ steps) e)

kept_answer : (words : Words) (plan : TaskPlan) (steps : List Step) → AnswersAfter words plan steps
    → is_unbroken (watch_after plan steps) ≡ true
kept_answer words plan steps (exits ins registers S answer kept) = kept
kept_answer words plan steps (returns last is from e) =
    kept_before plan (watch_after plan steps) last.from last.ins last.to (ap is_unbroken e)

no_regions : (g : Graph) (p : Places) → IsRegions g p [] no_nest
no_regions g p =
    record {
      node = λ r l. absurd (omega arith);
      numbered = λ r s l m. absurd (omega arith);
      stated = λ r l. absurd (omega arith);
      all = λ l y c m e. absurd (omega (arith, c.1));
      nodes_only = λ r y l. refl;
    }

walk_strip : (plan : TaskPlan) (g : Graph) (p : Places) (steps : List Step) (walk : List ℕ)
    → is_unbroken (watch_after plan steps) ≡ true → IsKeptWalkOf (bare plan) g p no_nest steps walk
    → IsWalkOf plan g p steps walk
walk_strip plan g p steps walk k W = record {
  is_walk = W.of_steps.is_walk;
  nodes = W.of_steps.nodes ∙ nodes_strip plan steps k;
}

pub path_law : PathLaw
path_law words plan g p steps map_of F errors are on =
    let found = kept_walk_of words (bare plan) g p no_nest map_of F errors (no_regions g p) steps
    are (going_strip plan steps on) in
    (found.0, walk_strip plan g p steps found.0 on.kept found.1)

pub path_end_law : PathEndLaw
path_end_law words plan g p steps map_of F errors are answer =
    let found = answering_walk words (bare plan) g p no_nest map_of F errors (no_regions g p) steps
    are (answer_strip words plan steps answer) in (
      found.0,
      walk_strip plan g p steps found.0 (kept_answer words plan steps answer) found.1,
      found.2,
    )

pub return_law : ReturnLaw
return_law words plan g p last steps map_of F errors are e =
    let all = returned words (bare plan) g p no_nest map_of F errors (no_regions g p) last steps are
    (returned_strip plan (last ∷ steps) e) in
    let kept = kept_before plan (watch_after plan steps) last.from last.ins last.to
    (ap is_unbroken e) in
    (all.0, all.1, sym (context_strip plan steps kept) ∙ all.2)
