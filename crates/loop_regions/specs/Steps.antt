-- Every list of steps of a job whose watch is not broken is a kept walk of its task's graph.
use Rattle.std.specs.Prelude.{◌≡◌, ◌≢◌, ℕ, true, List, [], ◌∷◌, map, Some}
use Rattle.crpd_base.specs.declared.data.TaskPlan.{TaskPlan}
use Rattle.rv_decode.specs.declared.Ins.{Ins}
use Rattle.rv_decode.specs.Address.{end_address}
use Rattle.rv_decode.specs.Table.{ins_of_word}
use Rattle.rv_decode.specs.Flow.{Return, flow, Words, IsCodeMap, Flows, flows}
use Rattle.rv_core.specs.declared.Next.TheVariants.{Goto, Answer}
use Rattle.rv_core.specs.Effect.{next_pc}
use Rattle.flat_graph.specs.FlatGraph.{FlatNode, answers, HasNoErrors}
use Rattle.flat_graph.specs.Graph.{Graph, IsWalk, Places}
use Rattle.flat_graph.specs.Numbered.{node_at, FollowsCode}
use Rattle.flow_watch.specs.Watch.{Frame, Watch, start, step as watch_step, is_unbroken, context}
use Rattle.loop_regions.specs.Nest.{Nest, IsKeptWalk}
use Rattle.loop_regions.specs.Stated.{IsRegions}
use Rattle.loop_regions.specs.Watched.{CountsAgree}

-- a step: the instruction at an address, and the address to which it went
pub record Step : Type 0 where
  pub from : ℕ
  pub ins : Ins
  pub to : ℕ

-- the word at an address encodes the instruction
pub record StandsAt (words : Words) (a : ℕ) (ins : Ins) : Type 0 where
  pub word : ℕ
  pub here : words a ≡ Some word
  pub reads : ins_of_word word ≡ Some ins

-- the word there encodes the instruction, which goes to this address for some registers
pub record IsStep (words : Words) (s : Step) : Type 0 where
  pub stands : StandsAt words s.from s.ins
  pub registers : List ℕ
  pub goes : next_pc s.ins s.from registers ≡ Goto s.to

-- the address of a job after steps from the entry, the last one first
abbrev pub address_after : ℕ → List Step → ℕ
address_after entry [] = entry
address_after entry (s ∷ earlier) = s.to

-- steps from the entry, each of which begins where the one before it ended
abbrev pub AreSteps : Words → ℕ → List Step → Type 0
AreSteps words entry [] = Unit {0}
AreSteps words entry (s ∷ earlier) =
    IsStep words s × (s.from ≡ address_after entry earlier) × AreSteps words entry earlier

-- the watch after steps
abbrev pub watch_after : TaskPlan → List Step → Watch
watch_after plan [] = start plan
watch_after plan (s ∷ earlier) = watch_step plan (watch_after plan earlier) s.from s.ins s.to

-- the context and the address of a job after these steps
abbrev pub node_after : TaskPlan → List Step → FlatNode
node_after plan steps = record {
  context = context (watch_after plan steps);
  address = address_after plan.entry steps;
}

-- those of all moments so far, the last one first
abbrev pub nodes_along : TaskPlan → List Step → List FlatNode
nodes_along plan [] = node_after plan [] ∷ []
nodes_along plan (s ∷ earlier) = node_after plan (s ∷ earlier) ∷ nodes_along plan earlier

-- these contexts and addresses are a walk of the graph
pub record IsWalkOf (plan : TaskPlan) (g : Graph) (p : Places) (steps : List Step)
    (walk : List ℕ) : Type 0 where
  pub is_walk : IsWalk g walk
  pub nodes : map (node_at p) walk ≡ nodes_along plan steps

-- they are a kept walk, with the counts of the watch's open loops
pub record IsKeptWalkOf (plan : TaskPlan) (g : Graph) (p : Places) (n : Nest) (steps : List Step)
    (walk : List ℕ) : Type 0 where
  pub of_steps : IsWalkOf plan g p steps walk
  pub kept : IsKeptWalk n walk
  pub counts : (frames : List Frame) → watch_after plan steps ≡ Some frames
      → CountsAgree g p plan.loops n frames walk

-- the last node of a walk is a completing node
abbrev pub EndsAnswering : Flows → Places → List ℕ → Type 0
EndsAnswering code p [] = ⊥
EndsAnswering code p (y ∷ before) = answers code (node_at p y) ≡ true

-- the watch is not broken, and the bottom frame has not returned
pub record IsGoingOn (plan : TaskPlan) (steps : List Step) : Type 0 where
  pub kept : is_unbroken (watch_after plan steps) ≡ true
  pub has_frame : watch_after plan steps ≢ Some []

-- after these steps the job completes, with the watch unbroken: by an instruction that completes
-- it, or by one more step with which the bottom frame returns
pub data AnswersAfter (words : Words) (plan : TaskPlan) (steps : List Step) : Type 0 where
  exits : (ins : Ins) (registers : List ℕ) → StandsAt words (address_after plan.entry steps) ins
      → next_pc ins (address_after plan.entry steps) registers ≡ Answer
      → is_unbroken (watch_after plan steps) ≡ true → AnswersAfter words plan steps
  returns : (last : Step) → IsStep words last → last.from ≡ address_after plan.entry steps
      → watch_after plan (last ∷ steps) ≡ Some [] → AnswersAfter words plan steps

-- the law without loops: the contexts and addresses of all steps are a walk of the graph
abbrev pub PathLaw : Type 0
PathLaw =
    (words : Words) (plan : TaskPlan) (g : Graph) (p : Places) (steps : List Step) →
    IsCodeMap words → FollowsCode (flows words) plan.entry g p
    → HasNoErrors (flows words) plan.entry →
    AreSteps words plan.entry steps → IsGoingOn plan steps
    → (walk : List ℕ) × IsWalkOf plan g p steps walk

-- and if the job then completes, the last node is a completing node
abbrev pub PathEndLaw : Type 0
PathEndLaw =
    (words : Words) (plan : TaskPlan) (g : Graph) (p : Places) (steps : List Step) →
    IsCodeMap words → FollowsCode (flows words) plan.entry g p
    → HasNoErrors (flows words) plan.entry →
    AreSteps words plan.entry steps → AnswersAfter words plan steps →
    (walk : List ℕ) × IsWalkOf plan g p steps walk × EndsAnswering (flows words) p walk

-- with the regions of the plan's loops it is a kept walk, and has the watch's counts
abbrev pub WalkLaw : Type 0
WalkLaw =
    (words : Words) (plan : TaskPlan) (g : Graph) (p : Places) (n : Nest) (steps : List Step) →
    IsCodeMap words → FollowsCode (flows words) plan.entry g p
    → HasNoErrors (flows words) plan.entry → IsRegions g p plan.loops n →
    AreSteps words plan.entry steps → IsGoingOn plan steps
    → (walk : List ℕ) × IsKeptWalkOf plan g p n steps walk

-- and if the job then completes, the last node is a completing node
abbrev pub WalkEndLaw : Type 0
WalkEndLaw =
    (words : Words) (plan : TaskPlan) (g : Graph) (p : Places) (n : Nest) (steps : List Step) →
    IsCodeMap words → FollowsCode (flows words) plan.entry g p
    → HasNoErrors (flows words) plan.entry → IsRegions g p plan.loops n →
    AreSteps words plan.entry steps → AnswersAfter words plan steps →
    (walk : List ℕ) × IsKeptWalkOf plan g p n steps walk × EndsAnswering (flows words) p walk

-- only a return of the bottom frame leaves no frame, and it goes to the end
abbrev pub ReturnLaw : Type 0
ReturnLaw =
    (words : Words) (plan : TaskPlan) (g : Graph) (p : Places) (last : Step) (steps : List Step) →
    IsCodeMap words → FollowsCode (flows words) plan.entry g p
    → HasNoErrors (flows words) plan.entry →
    AreSteps words plan.entry (last ∷ steps) → watch_after plan (last ∷ steps) ≡ Some [] →
    (flow last.from last.ins ≡ Return) × (last.to ≡ end_address)
    × (context (watch_after plan steps) ≡ [])
