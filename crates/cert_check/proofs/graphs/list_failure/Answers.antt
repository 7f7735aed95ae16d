use Rattle.std.proofs.Common.{ℕ, List, length, refl, ap, sym, ◌∙◌, arith}
use Rattle.std.proofs.lemmas.Bool.{false≢true}
use Rattle.cert_check.specs.declared.outcome.Clause.TheVariants.{Leaders, NodePotentials}
use Rattle.cert_check.specs.declared.outcome.Clause.TheVariants.{LoopPotentials}
use Rattle.loop_regions.specs.TaskGraphs.{task_graph}
use Rattle.cert_check.specs.Verdict.{GraphHolds}
use Rattle.cert_check.proofs.Found.{fails_first, fails_later, lists_before, lists_hold}
use Rattle.evict_sets.proofs.ListedAt.{nodes_as}
use Rattle.cert_check.proofs.graphs.list_failure.Goals as goal
use Rattle.cert_check.proofs.graphs.list_failure.Goals.{then-not-are_nodes-via-then-not-are_nodes}
use Rattle.cert_check.proofs.graphs.list_failure.Goals.{
  then-not-are_nodes-via-else-not-are_nodes+then-not-lists_leaders,
}

pub returns-then-not-are_nodes : goal.returns-then-not-are_nodes
returns-then-not-are_nodes c =
    fails_first
    (GraphHolds c.args.listing.now.platform.now
    (task_graph c.args.listing.now.graph.now c.args.nest.now) c.args.listing.now.part.now) Leaders
    refl (λ h. elim c.then-not-are_nodes.branch [
      | then-not-are_nodes-via-then-not-are_nodes w ↦
          false≢true (sym w.if-not-are_nodes.true
          ∙ c.are_nodes.ensures.1
          (nodes_as c.args.listing.now.part.now.states c.as_slice-states.result.now
          (length c.args.listing.now.graph.now.nodes) c.len-size.result
          (sym c.as_slice-states.ensures) (sym c.len-size.ensures) h.0))
      | then-not-are_nodes-via-else-not-are_nodes+then-not-lists_leaders w ↦
          false≢true (sym w.if-not-lists_leaders.true ∙ w.lists_leaders.ensures.1 h.1)
    ])

pub returns-then-potentials-size : goal.returns-then-potentials-size
returns-then-potentials-size c =
    fails_later
    (GraphHolds c.args.listing.now.platform.now
    (task_graph c.args.listing.now.graph.now c.args.nest.now) c.args.listing.now.part.now)
    NodePotentials
    (lists_before
    (GraphHolds c.args.listing.now.platform.now
    (task_graph c.args.listing.now.graph.now c.args.nest.now) c.args.listing.now.part.now) 1
    (λ b. (
      nodes_as c.as_slice-states.result.now c.args.listing.now.part.now.states c.len-size.result
          (length c.args.listing.now.graph.now.nodes) c.as_slice-states.ensures c.len-size.ensures
          (c.are_nodes.ensures.0 c.if-not-are_nodes.false),
      c.lists_leaders.ensures.0 c.if-not-lists_leaders.false,
    )) (λ b. absurd (omega (arith, b))) (omega arith))
    (λ e. c.if-potentials-size.true
    (ap (λ (xs : List ℕ). length xs) c.as_slice-potentials.ensures ∙ e ∙ sym c.len-size.ensures))

pub returns-then-loops-regions : goal.returns-then-loops-regions
returns-then-loops-regions c =
    fails_later
    (GraphHolds c.args.listing.now.platform.now
    (task_graph c.args.listing.now.graph.now c.args.nest.now) c.args.listing.now.part.now)
    LoopPotentials
    (lists_before
    (GraphHolds c.args.listing.now.platform.now
    (task_graph c.args.listing.now.graph.now c.args.nest.now) c.args.listing.now.part.now) 2
    (λ b. (
      nodes_as c.as_slice-states.result.now c.args.listing.now.part.now.states c.len-size.result
          (length c.args.listing.now.graph.now.nodes) c.as_slice-states.ensures c.len-size.ensures
          (c.are_nodes.ensures.0 c.if-not-are_nodes.false),
      c.lists_leaders.ensures.0 c.if-not-lists_leaders.false,
    )) (λ b.
    (sym (ap (λ (xs : List ℕ). length xs) c.as_slice-potentials.ensures)
    ∙ c.if-potentials-size.false ∙ c.len-size.ensures)) (omega arith))
    (λ e. c.if-loops-regions.true
    (ap (λ (xs : List ℕ). length xs) c.as_slice-loops.ensures ∙ e ∙ sym c.len-regions.ensures))

pub returns : goal.returns
returns c =
    lists_hold
    (GraphHolds c.args.listing.now.platform.now
    (task_graph c.args.listing.now.graph.now c.args.nest.now) c.args.listing.now.part.now) (
      nodes_as c.as_slice-states.result.now c.args.listing.now.part.now.states c.len-size.result
          (length c.args.listing.now.graph.now.nodes) c.as_slice-states.ensures c.len-size.ensures
          (c.are_nodes.ensures.0 c.if-not-are_nodes.false),
      c.lists_leaders.ensures.0 c.if-not-lists_leaders.false,
    ) (sym (ap (λ (xs : List ℕ). length xs) c.as_slice-potentials.ensures)
    ∙ c.if-potentials-size.false ∙ c.len-size.ensures)
    (sym (ap (λ (xs : List ℕ). length xs) c.as_slice-loops.ensures) ∙ c.if-loops-regions.false
    ∙ c.len-regions.ensures)
