use Rattle.std.proofs.Common.{◌∙◌}
use Rattle.code_map.specs.Words.{word_at}
use Rattle.flat_graph.specs.FlatGraph.{FlatNode}
use Rattle.flat_graph.proofs.Explored.{below_end}
use Rattle.flat_graph.proofs.NodeBodies.{led}
use Rattle.flat_graph.proofs.reach.steps_from.Goals as goal

pub steps_of-requires-clause-calls : goal.steps_of-requires-clause-calls
steps_of-requires-clause-calls c =
    below_end (word_at c.args.code.now.images) (λ a w e. (c.words_law.ensures a w e).0) c.args.entry
    (record { context = c.args.calls.now; address = c.args.address }) c.requires

pub returns-in_ok-steps-in-Ok : goal.returns-in_ok-steps-in-Ok
returns-in_ok-steps-in-Ok c =
    let n : FlatNode = record { context = c.args.calls.now; address = c.args.address } in
    record {
      no_error = c.in-Ok.ensures.error;
      stands = c.in-Ok.ensures.stands;
      leads = c.in_ok-steps-in-Ok.ensures
          ∙ led (word_at c.args.code.now.images) c.args.entry n c.in-Ok.ins _ c.in-Ok.ensures.error
          c.in-Ok.ensures.stands c.flow_of.ensures;
    }
