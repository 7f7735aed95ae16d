use Rattle.std.proofs.Common.{◌∙◌, ◌+◌, ◌<◌, List, [], length, sym, ap, subst, arith}
use Rattle.std.proofs.lemmas.Bool.{false≢true}
use Rattle.std.proofs.lemmas.List.{get_or_default}
use Rattle.crpd_base.specs.declared.data.NodeState.{NodeState}
use Rattle.icache.specs.Accesses.{accesses}
use Rattle.flat_graph.specs.CodeGraph.{graph_of, places_of}
use Rattle.cert_build.specs.Inner.Entries.{AreLeaderEntries}
use Rattle.cert_build.proofs.EntryLaws.{best_entry, entry_ranges, entries_more, entries_same}
use Rattle.cert_build.proofs.leader_states.leader_states.Goals as goal
use Rattle.cert_build.proofs.leader_states.leader_states.Goals.{then-leader+in_ok-entry+in_ok-push}
use Rattle.cert_build.proofs.leader_states.leader_states.Goals.{else-leader}

pub loop-node-preserved : goal.loop-node-preserved
loop-node-preserved c =
    let g = graph_of c.args.graph.now in
    let address = (places_of c.args.graph.now).address in
    let p = c.args.geometry.now.platform in
    let lt : c.loop-node.node < length c.args.graph.now.nodes =
    omega (arith, c.loop-node-test.true, c.len-node-end.ensures) in
    let useful : c.loop-node.node < length c.args.useful.now =
    omega (arith, lt, c.requires.useful.count) in
    elim c.if-leader.branch [
      | then-leader+in_ok-entry+in_ok-push w ↦
          entries_more g (accesses p address) c.loop-node.node c.loop-node.states.items
          c.if-leader.states.items w.in_ok-entry.field-0
          (ap (λ v. v.items) w.states-is ∙ w.in_ok-push.ensures.items) w.in_ok-entry.ensures.node
          (best_entry p g address c.args.useful.now c.graph_law.ensures.graph c.requires.some
          c.requires.few c.requires.useful
          c.loop-node.node w.index-useful-node.result w.in_ok-entry.field-0 lt
          (c.leader.ensures.0 w.if-leader.true)
          (w.index-useful-node.is ∙ get_or_default c.args.useful.now c.loop-node.node
          w.index-useful-node.result [] useful)
          w.in_ok-entry.ensures)
          (entry_ranges p g address c.args.useful.now c.graph_law.ensures.graph c.requires.some
          c.requires.few c.requires.useful
          c.loop-node.node w.index-useful-node.result w.in_ok-entry.field-0 w.in_ok-entry.ensures)
          c.loop-node.invariant
      | else-leader w ↦
          subst (λ (l : List NodeState).
          AreLeaderEntries g (accesses p address) (c.loop-node.node + 1) l)
          (sym (ap (λ v. v.items) w.states-is))
          (entries_same g (accesses p address) c.loop-node.node c.loop-node.states.items
          c.graph_law.ensures.graph
          (λ leads. false≢true (sym w.if-leader.false ∙ c.leader.ensures.1 leads))
          c.loop-node.invariant)
    ]
