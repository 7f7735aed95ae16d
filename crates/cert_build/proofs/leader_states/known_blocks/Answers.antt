use Rattle.std.proofs.Common.{◌≡◌, ◌∙◌, ap, subst, arith}
use Rattle.icache.specs.Accesses.{accesses}
use Rattle.flat_graph.specs.CodeGraph.{graph_of, places_of}
use Rattle.cert_build.specs.Inner.Entries.{ListsSure}
use Rattle.cert_build.proofs.EntryLaws.{listed_more, listed_same}
use Rattle.cert_build.proofs.leader_states.known_blocks.Goals as goal
use Rattle.cert_build.proofs.leader_states.known_blocks.Goals.{in-Some+in_ok-push_pair, in_default}

pub returns : goal.returns
returns c =
    let e : c.loop-set.set ≡ c.args.geometry.now.platform.sets = omega arith in
    subst (λ n. ListsSure (graph_of c.args.graph.now)
    (accesses c.args.geometry.now.platform (places_of c.args.graph.now).address) c.args.leader.0 n
    c.loop-set.pairs.items) e c.loop-set.invariant

pub loop-set-preserved : goal.loop-set-preserved
loop-set-preserved c =
    elim c.match-sure_at.branch [
      | in-Some+in_ok-push_pair w ↦
          listed_more (graph_of c.args.graph.now)
          (accesses c.args.geometry.now.platform (places_of c.args.graph.now).address)
          c.args.leader.0 c.loop-set.set c.sure_at.result w.in-Some.block c.loop-set.pairs.items
          c.match-sure_at.pairs.items
          c.sure_at.ensures w.in-Some.is
          (ap (λ v. v.items) w.pairs-is ∙ w.in_ok-push_pair.ensures.pushed) w.push_pair.ensures.bits
          c.loop-set.invariant
      | in_default w ↦
          listed_same (graph_of c.args.graph.now)
          (accesses c.args.geometry.now.platform (places_of c.args.graph.now).address)
          c.args.leader.0 c.loop-set.set c.sure_at.result c.loop-set.pairs.items
          c.match-sure_at.pairs.items
          c.sure_at.ensures w.in_default.is (ap (λ v. v.items) w.pairs-is) c.loop-set.invariant
    ]
