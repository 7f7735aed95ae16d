use Rattle.std.proofs.lemmas.Fn.{always_returns_same}
use Rattle.flat_graph.specs.Inner.NumberingOrder.{flat_cmp, stored_flat_node}
use Rattle.flat_graph.proofs.graph.search.Goals as goal

pub returns-clause-position : goal.returns-clause-position
returns-clause-position c =
    c.binary_search_by.ensures.position
    (λ s. flat_cmp (stored_flat_node c.args.contexts.now s)
    (record { context = c.args.context.now; address = c.args.address }))
    (always_returns_same _ _ _
    (λ a r f' k. (k.met.1, λ j. (k.met.0.0 j, k.met.0.1 j, k.met.0.2 j))))
