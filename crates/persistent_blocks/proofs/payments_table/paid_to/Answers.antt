use Rattle.std.proofs.Common.{◌≡◌, ◌↔◌, ℕ, IsTrue, sym, ap, ◌∙◌, subst, option_map}
use Rattle.crpd_base.proofs.Options.{some_injective}
use Rattle.crpd_base.specs.Sets.{has}
use Rattle.crpd_base.specs.declared.data.NodeId.{NodeId}
use Rattle.flat_graph.specs.CodeGraph.{graph_of}
use Rattle.must_cache.specs.Prepaid.{Pays}
use Rattle.persistent_blocks.specs.Inner.Brought.{region_events}
use Rattle.persistent_blocks.proofs.payments_table.paid_to.Goals as goal

pub returns-in-Some : goal.returns-in-Some
returns-in-Some c v s e =
    let b = c.args.brings.now in
    let same : c.in-Some.node.0 ≡ v =
    some_injective (sym (ap (option_map (λ (t : NodeId). t.0)) c.in-Some.is) ∙ e) in
    subst (λ (w : ℕ). IsTrue (has c.edge_payments.result s) ↔ Pays (graph_of b.graph.now)
    (region_events c.args.geometry.now.platform b.graph.now b.nest.now b.heads.items b.blocks.items)
    c.args.source.0 w s) same (c.edge_payments.ensures s)
