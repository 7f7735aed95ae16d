-- The laws on steps at one task.
use Rattle.std.proofs.Common.{◌≡◌, ℕ, ◌+◌, ◌≤◌, ◌<◌, ◌^◌, Some}
use Rattle.rv_decode.specs.Flow.{IsCodeMap, flows}
use Rattle.rv_decode.specs.Address.{end_address}
use Rattle.crpd_base.specs.declared.data.TaskPlan.{TaskPlan}
use Rattle.code_map.specs.Words.{Code, word_at}
use Rattle.flat_graph.specs.CodeGraph.{CodeGraph, graph_of, places_of}
use Rattle.flat_graph.specs.Numbered.{FollowsCode, FollowsLaw}
use Rattle.loop_regions.specs.CodeNest.{CodeNest}
use Rattle.loop_regions.specs.TaskSteps.{words_of, IsPlanOf, IsGraphOfTask, IsNestOfTask}
use Rattle.loop_regions.specs.TaskSteps.{TaskPathLaw, TaskPathEndLaw, TaskReturnLaw, TaskWalkLaw}
use Rattle.loop_regions.specs.TaskSteps.{TaskWalkEndLaw}
use Rattle.loop_regions.proofs.Paths.{path_law, path_end_law, return_law}
use Rattle.loop_regions.proofs.Steps.{walk_law, walk_end_law}

module _ (code : Code) (task : ℕ) (g : CodeGraph)
    (W : (a w : ℕ) → word_at code.images a ≡ Some w → (a + 4 ≤ end_address) × (w < 2 ^ 32))
    (F : FollowsLaw) (G : IsGraphOfTask code task g) where
  is_code : IsCodeMap (words_of code)
  is_code a w e = (W a w e).0

  follows : (plan : TaskPlan) → IsPlanOf code task plan
      → FollowsCode (flows (words_of code)) plan.entry (graph_of g) (places_of g)
  follows plan e =
      let is = G plan e in
      F (flows (words_of code)) plan.entry is.nodes (graph_of g) (places_of g) is.flat is.places

  pub task_path_law : TaskPathLaw code task g
  task_path_law plan steps e =
      path_law (words_of code) plan (graph_of g) (places_of g) steps is_code (follows plan e)
      (G plan e).no_errors

  pub task_path_end_law : TaskPathEndLaw code task g
  task_path_end_law plan steps e =
      path_end_law (words_of code) plan (graph_of g) (places_of g) steps is_code (follows plan e)
      (G plan e).no_errors

  pub task_return_law : TaskReturnLaw code task
  task_return_law plan last steps e =
      return_law (words_of code) plan (graph_of g) (places_of g) last steps is_code (follows plan e)
      (G plan e).no_errors

  pub task_walk_law : (n : CodeNest) → IsNestOfTask code task g n → TaskWalkLaw code task g n
  task_walk_law n N plan steps e =
      walk_law (words_of code) plan (graph_of g) (places_of g) _ steps is_code (follows plan e)
      (G plan e).no_errors (N plan e)

  pub task_walk_end_law : (n : CodeNest) → IsNestOfTask code task g n → TaskWalkEndLaw code task g n
  task_walk_end_law n N plan steps e =
      walk_end_law (words_of code) plan (graph_of g) (places_of g) _ steps is_code (follows plan e)
      (G plan e).no_errors (N plan e)
