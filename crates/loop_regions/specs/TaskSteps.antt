-- The steps of a task's jobs: the laws on them at the code, the graph and the nest of one task.
use Rattle.std.specs.Prelude.{◌≡◌, ℕ, List, [], ◌∷◌, Some, slice_get}
use Rattle.crpd_base.specs.declared.data.TaskPlan.{TaskPlan}
use Rattle.rv_decode.specs.Address.{end_address}
use Rattle.rv_decode.specs.Flow.{Return, flow, Words, flows}
use Rattle.code_map.specs.Words.{Code, word_at}
use Rattle.flow_watch.specs.Watch.{context}
use Rattle.flat_graph.specs.CodeGraph.{CodeGraph, graph_of, places_of, IsCodeGraph}
use Rattle.loop_regions.specs.CodeNest.{CodeNest, nest_of}
use Rattle.loop_regions.specs.Stated.{IsRegions}
use Rattle.loop_regions.specs.Steps.{Step, AreSteps, watch_after, IsWalkOf, IsKeptWalkOf}
use Rattle.loop_regions.specs.Steps.{EndsAnswering, IsGoingOn, AnswersAfter}

-- the words of the tasks' files
abbrev pub words_of : Code → Words
words_of code = word_at code.images

-- the plan of a task
abbrev pub IsPlanOf : Code → ℕ → TaskPlan → Type 0
IsPlanOf code task plan = slice_get code.plans task ≡ Some plan

-- the graph is the flat graph of the task
abbrev pub IsGraphOfTask : Code → ℕ → CodeGraph → Type 0
IsGraphOfTask code task g =
    (plan : TaskPlan) → IsPlanOf code task plan → IsCodeGraph (words_of code) plan.entry g

-- the nest is that of the graph for the loops of the task's plan
abbrev pub IsNestOfTask : Code → ℕ → CodeGraph → CodeNest → Type 0
IsNestOfTask code task g n =
    (plan : TaskPlan) → IsPlanOf code task plan
    → IsRegions (graph_of g) (places_of g) plan.loops (nest_of n)

-- the contexts and addresses of all steps are a walk of the graph
abbrev pub TaskPathLaw : Code → ℕ → CodeGraph → Type 0
TaskPathLaw code task g =
    (plan : TaskPlan) (steps : List Step) → IsPlanOf code task plan
    → AreSteps (words_of code) plan.entry steps → IsGoingOn plan steps →
    (walk : List ℕ) × IsWalkOf plan (graph_of g) (places_of g) steps walk

-- and if the job then completes, the last node is a completing node
abbrev pub TaskPathEndLaw : Code → ℕ → CodeGraph → Type 0
TaskPathEndLaw code task g =
    (plan : TaskPlan) (steps : List Step) → IsPlanOf code task plan
    → AreSteps (words_of code) plan.entry steps → AnswersAfter (words_of code) plan steps →
    (walk : List ℕ) × IsWalkOf plan (graph_of g) (places_of g) steps walk
    × EndsAnswering (flows (words_of code)) (places_of g) walk

-- only a return of the bottom frame leaves no frame, and it goes to the end
abbrev pub TaskReturnLaw : Code → ℕ → Type 0
TaskReturnLaw code task =
    (plan : TaskPlan) (last : Step) (steps : List Step) → IsPlanOf code task plan
    → AreSteps (words_of code) plan.entry (last ∷ steps) →
    watch_after plan (last ∷ steps) ≡ Some []
    → (flow last.from last.ins ≡ Return) × (last.to ≡ end_address)
    × (context (watch_after plan steps) ≡ [])

-- with the regions of the plan's loops it is a kept walk, and has the watch's counts
abbrev pub TaskWalkLaw : Code → ℕ → CodeGraph → CodeNest → Type 0
TaskWalkLaw code task g n =
    (plan : TaskPlan) (steps : List Step) → IsPlanOf code task plan
    → AreSteps (words_of code) plan.entry steps → IsGoingOn plan steps →
    (walk : List ℕ) × IsKeptWalkOf plan (graph_of g) (places_of g) (nest_of n) steps walk

-- and if the job then completes, the last node is a completing node
abbrev pub TaskWalkEndLaw : Code → ℕ → CodeGraph → CodeNest → Type 0
TaskWalkEndLaw code task g n =
    (plan : TaskPlan) (steps : List Step) → IsPlanOf code task plan
    → AreSteps (words_of code) plan.entry steps → AnswersAfter (words_of code) plan steps →
    (walk : List ℕ) × IsKeptWalkOf plan (graph_of g) (places_of g) (nest_of n) steps walk
    × EndsAnswering (flows (words_of code)) (places_of g) walk
