-- The steps of a job, in sequence, are a kept walk.
use Rattle.std.proofs.Common.{◌≡◌, ◌⊎◌, ℕ, true, List, [], ◌∷◌, map, Some, None, refl, sym, ◌∙◌, ap}
use Rattle.std.proofs.Common.{subst, inl, inr, arith, ◌==◌, nat_lt, length}
use Rattle.std.proofs.lemmas.Bool.{cases_Bool, eqb-true, false≢true}
use Rattle.flow_watch.proofs.Steps.{step_none}
use Rattle.crpd_base.specs.declared.data.TaskPlan.{TaskPlan}
use Rattle.rv_decode.specs.declared.Ins.{Ins}
use Rattle.rv_decode.specs.Address.{next_address, end_address}
use Rattle.rv_decode.specs.Flow.{Flow, Plain, Branch, Jump, Call, Return, Exit, Break, OtherJalr}
use Rattle.rv_decode.specs.Flow.{OtherJal, flow, Words, IsCodeMap, Flows, flows, flow_of_word}
use Rattle.rv_decode.specs.Flow.{flow_of_row}
use Rattle.rv_core.specs.Effect.{next_pc}
use Rattle.flat_graph.specs.FlatGraph.{answers_by, HasNoErrors}
use Rattle.flat_graph.specs.Graph.{Graph, Places}
use Rattle.flat_graph.specs.Numbered.{node_at, FollowsCode}
use Rattle.flow_watch.specs.Watch.{Frame, Watch, all_iterations_after, within_bounds, arrive}
use Rattle.flow_watch.specs.Watch.{new_frame, step_by_flow, start, step as watch_step, is_unbroken}
use Rattle.flow_watch.specs.Watch.{calls_under_way, context}
use Rattle.loop_regions.specs.Nest.{Nest}
use Rattle.loop_regions.specs.Stated.{IsRegions}
use Rattle.loop_regions.specs.Watched.{AreFrames, CountsAgree, IsWatchedWalk}
use Rattle.loop_regions.specs.Steps.{Step, StandsAt, IsStep, address_after, AreSteps, watch_after}
use Rattle.loop_regions.specs.Steps.{node_after, nodes_along, IsKeptWalkOf, EndsAnswering}
use Rattle.loop_regions.specs.Steps.{IsGoingOn, AnswersAfter, exits, returns, WalkLaw, WalkEndLaw}
use Rattle.loop_regions.proofs.Watched.{watch_start_law, watch_step_law}
use Rattle.loop_regions.proofs.Flows.{flow_goes, can_go, answer_exits}

-- the frames are empty only after a return of the bottom one
arrive_some : (plan : TaskPlan) (to : ℕ) (f : Frame) (fs : List Frame)
    → arrive plan to (f ∷ fs) ≡ Some [] → ⊥
arrive_some plan to f fs e =
    elim (cases_Bool (within_bounds plan.loops (all_iterations_after to plan.loops f.turns))) [
      | inl b ↦ let r = rw b at e in cc
      | inr b ↦ let r = rw b at e in cc
    ]

pub record IsBottomReturn (frames : List Frame) (f : Flow) (to : ℕ) : Type 0 where
  pub is_return : f ≡ Return
  pub bottom : calls_under_way frames ≡ []
  pub at_end : to ≡ end_address

pub bottom_return : (code : Flows) (plan : TaskPlan) (frames : List Frame) (from : ℕ) (f : Flow)
    (to : ℕ) → AreFrames code plan frames → step_by_flow plan frames from f to ≡ Some []
    → IsBottomReturn frames f to
bottom_return code plan [] from f to are e = absurd are
bottom_return code plan (f ∷ fs) from Plain to are e = absurd (arrive_some plan to f fs e)
bottom_return code plan (f ∷ fs) from (Branch t) to are e = absurd (arrive_some plan to f fs e)
bottom_return code plan (f ∷ fs) from (Jump t) to are e = absurd (arrive_some plan to f fs e)
bottom_return code plan (f ∷ fs) from (Call t) to are e =
    elim (cases_Bool (nat_lt (length (f ∷ fs)) 17)) [
      | inl b ↦
          absurd (arrive_some plan to (new_frame plan (next_address from)) (f ∷ fs) (rw b at e))
      | inr b ↦ absurd (let r = rw b at e in cc)
    ]
bottom_return code plan (f ∷ []) from Return to are e =
    elim (cases_Bool (to == f.back)) [
      | inl b ↦ record { is_return = refl; bottom = refl; at_end = eqb-true to f.back b ∙ are.1 }
      | inr b ↦ absurd (let r = rw b at e in cc)
    ]
bottom_return code plan (f ∷ h ∷ fs) from Return to are e =
    elim (cases_Bool (to == f.back)) [
      | inl b ↦ absurd (arrive_some plan to h fs (rw b at e))
      | inr b ↦ absurd (let r = rw b at e in cc)
    ]
bottom_return code plan (f ∷ fs) from Exit to are e = absurd (arrive_some plan to f fs e)
bottom_return code plan (f ∷ fs) from Break to are e = absurd (arrive_some plan to f fs e)
bottom_return code plan (f ∷ fs) from OtherJalr to are e = absurd (let r = e in cc)
bottom_return code plan (f ∷ fs) from OtherJal to are e = absurd (let r = e in cc)

pub step_some : (plan : TaskPlan) (frames : List Frame) (from : ℕ) (ins : Ins) (to : ℕ)
    → watch_step plan (Some frames) from ins to ≡ step_by_flow plan frames from (flow from ins) to
unfolding watch_step
step_some plan frames from ins to = refl

-- a watch unbroken after a step was unbroken before it
pub kept_before : (plan : TaskPlan) (w : Watch) (from : ℕ) (ins : Ins) (to : ℕ)
    → is_unbroken (watch_step plan w from ins to) ≡ true → is_unbroken w ≡ true
kept_before plan None from ins to k =
    absurd (false≢true (ap is_unbroken (sym (step_none plan from ins to)) ∙ k))
kept_before plan (Some frames) from ins to k = refl

-- the flow at the address of an instruction
pub flow_there : (words : Words) (a : ℕ) (ins : Ins) → StandsAt words a ins
    → flows words a ≡ Some (Some (flow a ins))
flow_there words a ins S = ap (flow_of_word a) S.here ∙ ap (λ r. Some (flow_of_row a r)) S.reads

pub exit_answers : (c : List ℕ) → answers_by c (Some (Some Exit)) ≡ true
exit_answers [] = refl
exit_answers (x ∷ c) = refl

module _ (words : Words) (plan : TaskPlan) (g : Graph) (p : Places) (n : Nest)
    (map_of : IsCodeMap words) (F : FollowsCode (flows words) plan.entry g p)
    (errors : HasNoErrors (flows words) plan.entry) (R : IsRegions g p plan.loops n) where
  -- the walk of the steps so far
  pub record Walked (steps : List Step) : Type 0 where
    pub node : ℕ
    pub before : List ℕ
    pub frames : List Frame
    pub watch : watch_after plan steps ≡ Some frames
    pub walked : IsWatchedWalk (flows words) plan g p n node before
        (address_after plan.entry steps) frames
    pub nodes : map (node_at p) (node ∷ before) ≡ nodes_along plan steps

  -- otherwise the bottom frame has returned
  pub record Returned (steps : List Step) : Type 0 where
    pub watch : watch_after plan steps ≡ Some []
    pub at_end : address_after plan.entry steps ≡ end_address

  same_node : (v : ℕ) (before : List ℕ) (frames : List Frame) (steps : List Step)
      → watch_after plan steps ≡ Some frames
      → IsWatchedWalk (flows words) plan g p n v before (address_after plan.entry steps) frames
      → node_at p v ≡ node_after plan steps
  same_node v before frames steps w W =
      let c : p.context v ≡ context (watch_after plan steps) = W.context ∙ ap context (sym w) in
      λ i. record { context = c i; address = W.address i }

  at_start : (w : Watch) → start plan ≡ w → is_unbroken w ≡ true → Walked []
  at_start None e k = absurd (false≢true k)
  at_start (Some frames) e k =
      let W = watch_start_law (flows words) plan g p n frames F R e in
      record {
        node = g.first;
        before = [];
        frames = frames;
        watch = e;
        walked = W;
        nodes = ap (λ m. m ∷ []) (same_node g.first [] frames [] e W);
      }

  -- one more step
  module _ (s : Step) (earlier : List Step) (is : IsStep words s)
      (from : s.from ≡ address_after plan.entry earlier) (W : Walked earlier) where
    here : IsWatchedWalk (flows words) plan g p n W.node W.before s.from W.frames
    here =
        subst (λ a. IsWatchedWalk (flows words) plan g p n W.node W.before a W.frames)
        (sym from) W.walked

    pub moves : watch_after plan (s ∷ earlier)
        ≡ step_by_flow plan W.frames s.from (flow s.from s.ins) s.to
    moves =
        ap (λ w. watch_step plan w s.from s.ins s.to) W.watch
        ∙ step_some plan W.frames s.from s.ins s.to

    pub bottom : watch_after plan (s ∷ earlier) ≡ Some []
        → IsBottomReturn W.frames (flow s.from s.ins) s.to
    bottom e =
        bottom_return (flows words) plan W.frames s.from (flow s.from s.ins) s.to here.are_frames
        (sym moves ∙ e)

    goes : (w : Watch) → watch_after plan (s ∷ earlier) ≡ w → is_unbroken w ≡ true
        → Walked (s ∷ earlier) ⊎ Returned (s ∷ earlier)
    goes None e k = absurd (false≢true k)
    goes (Some []) e k = inr (record { watch = e; at_end = (bottom e).at_end })
    goes (Some (h ∷ hs)) e k =
        let there = watch_step_law (flows words) plan g p n W.node W.before s.from W.frames
        (flow s.from s.ins) s.to h hs F errors R here
        (flow_there words s.from s.ins is.stands) (map_of s.from is.stands.word is.stands.here)
        (can_go (flow s.from s.ins) s.from (next_pc s.ins s.from is.registers) s.to
        (flow_goes s.ins s.from is.registers) is.goes)
        (sym moves ∙ e) in
        inl (record {
          node = there.node;
          before = W.node ∷ W.before;
          frames = h ∷ hs;
          watch = e;
          walked = there.walked;
          nodes = λ i.
              same_node there.node (W.node ∷ W.before) (h ∷ hs) (s ∷ earlier) e there.walked i
              ∷ W.nodes i;
        })

  no_word_at_end : (a w : ℕ) → a ≡ end_address → words a ≡ Some w → ⊥
  no_word_at_end a w e h = omega (arith, map_of a w h, e)

  pub walked_or_returned : (steps : List Step) → AreSteps words plan.entry steps
      → is_unbroken (watch_after plan steps) ≡ true → Walked steps ⊎ Returned steps
  walked_or_returned [] are k = inl (at_start (start plan) refl k)
  walked_or_returned (s ∷ earlier) (is, from, are) k =
      elim (walked_or_returned earlier are
      (kept_before plan (watch_after plan earlier) s.from s.ins s.to k)) [
        | inl W ↦ goes s earlier is from W (watch_after plan (s ∷ earlier)) refl k
        | inr E ↦ absurd (no_word_at_end s.from is.stands.word (from ∙ E.at_end) is.stands.here)
      ]

  kept_walk : (steps : List Step) (W : Walked steps)
      → IsKeptWalkOf plan g p n steps (W.node ∷ W.before)
  kept_walk steps W =
      record {
        of_steps = record { is_walk = W.walked.walk; nodes = W.nodes };
        kept = W.walked.kept;
        counts = λ frames e.
            let same : W.frames ≡ frames = let both = sym W.watch ∙ e in
            cc in
            subst (λ fs. CountsAgree g p plan.loops n fs (W.node ∷ W.before)) same W.walked.counts;
      }

  pub going_on : (steps : List Step) → AreSteps words plan.entry steps → IsGoingOn plan steps
      → Walked steps
  going_on steps are on =
      elim (walked_or_returned steps are on.kept) [
        | inl W ↦ W
        | inr E ↦ absurd (on.has_frame E.watch)
      ]

  pub kept_walk_of : (steps : List Step) → AreSteps words plan.entry steps → IsGoingOn plan steps
      → (walk : List ℕ) × IsKeptWalkOf plan g p n steps walk
  kept_walk_of steps are on =
      let W = going_on steps are on in (W.node ∷ W.before, kept_walk steps W)

  -- the last node, if the job completes
  ends_by : (steps : List Step) (W : Walked steps) (ins : Ins) (f : Flow)
      → StandsAt words (address_after plan.entry steps) ins
      → flow (address_after plan.entry steps) ins ≡ f → (c : List ℕ) → calls_under_way W.frames ≡ c
      → answers_by c (Some (Some f)) ≡ true → EndsAnswering (flows words) p (W.node ∷ W.before)
  ends_by steps W ins f S is c context answering =
      ap (λ d. answers_by d (flows words (p.address W.node))) (W.walked.context ∙ context)
      ∙ ap (λ a. answers_by c (flows words a)) W.walked.address
      ∙ ap (answers_by c) (flow_there words (address_after plan.entry steps) ins S
      ∙ ap (λ x. Some (Some x)) is)
      ∙ answering

  before_return : (last : Step) (steps : List Step) → AreSteps words plan.entry (last ∷ steps)
      → watch_after plan (last ∷ steps) ≡ Some [] → Walked steps
  before_return last steps (is, from, are) e =
      elim (walked_or_returned steps are
      (kept_before plan (watch_after plan steps) last.from last.ins last.to (ap is_unbroken e))) [
        | inl W ↦ W
        | inr E ↦ absurd (no_word_at_end last.from is.stands.word (from ∙ E.at_end) is.stands.here)
      ]

  pub answering_walk : (steps : List Step) → AreSteps words plan.entry steps
      → AnswersAfter words plan steps
      → (walk : List ℕ) × IsKeptWalkOf plan g p n steps walk × EndsAnswering (flows words) p walk
  answering_walk steps are (exits ins registers S answer kept) =
      elim (walked_or_returned steps are kept) [
        | inl W ↦
            let exit = answer_exits (flow (address_after plan.entry steps) ins)
            (address_after plan.entry steps)
            (next_pc ins (address_after plan.entry steps) registers)
            (flow_goes ins (address_after plan.entry steps) registers) answer in (
              W.node ∷ W.before,
              kept_walk steps W,
              ends_by steps W ins Exit S exit (calls_under_way W.frames) refl
                  (exit_answers (calls_under_way W.frames)),
            )
        | inr E ↦ absurd (no_word_at_end (address_after plan.entry steps) S.word E.at_end S.here)
      ]
  answering_walk steps are (returns last is from e) =
      let W = before_return last steps (is, from, are) e in
      let B = bottom last steps is from W e in
      let S : StandsAt words (address_after plan.entry steps) last.ins =
      subst (λ a. StandsAt words a last.ins) from is.stands in
      let f : flow (address_after plan.entry steps) last.ins ≡ Return =
      ap (λ a. flow a last.ins) (sym from) ∙ B.is_return in
      (W.node ∷ W.before, kept_walk steps W, ends_by steps W last.ins Return S f [] B.bottom refl)

  pub returned : (last : Step) (steps : List Step) → AreSteps words plan.entry (last ∷ steps)
      → watch_after plan (last ∷ steps) ≡ Some []
      → (flow last.from last.ins ≡ Return) × (last.to ≡ end_address)
      × (context (watch_after plan steps) ≡ [])
  returned last steps (is, from, are) e =
      let W = before_return last steps (is, from, are) e in
      let B = bottom last steps is from W e in
      (B.is_return, B.at_end, ap context W.watch ∙ B.bottom)

pub walk_law : WalkLaw
walk_law words plan g p n steps map_of F errors R are on =
    kept_walk_of words plan g p n map_of F errors R steps are on

pub walk_end_law : WalkEndLaw
walk_end_law words plan g p n steps map_of F errors R are answer =
    answering_walk words plan g p n map_of F errors R steps are answer
