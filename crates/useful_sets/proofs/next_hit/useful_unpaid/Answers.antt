use Rattle.std.proofs.Common.{◌↔◌, None, IsTrue, get_or, false, refl, sym, ap, ◌∙◌, subst, arith}
use Rattle.std.proofs.Common.{lit<}
use Rattle.flat_graph.specs.CodeGraph.{graph_of, places_of}
use Rattle.icache.specs.Accesses.{accesses}
use Rattle.must_cache.specs.EdgeLists.{AreGraphEdges}
use Rattle.useful_sets.specs.Unpaid.{UsefulUnpaid}
use Rattle.useful_sets.proofs.ReuseFacts.{facts_useful, counted}
use Rattle.useful_sets.proofs.next_hit.useful_unpaid.Goals as goal

pub all_before-requires : goal.all_before-requires
all_before-requires g c = (
  lit< tt,
  (
    omega arith,
    (
      c.requires.own,
      (
        omega (
          arith,
          c.in_ok-after.ensures.nodes,
          ap (λ f. f.nodes) c.new-2.ensures,
          c.in-Some.ensures.graph.0,
          c.len.ensures,
          c.deref-2.ensures.len,
        ),
        λ n lt.
            let same = ap (λ f. f.edges.now) c.new-2.ensures ∙ c.in-Some.ensures.graph.1
            ∙ c.deref.ensures.value in
            let edges = subst (AreGraphEdges (graph_of c.args.graph.now))
            (sym same) c.in_ok-edges.ensures in
            let there = facts_useful (graph_of c.args.graph.now)
            (accesses c.args.geometry.now.platform (places_of c.args.graph.now).address)
            (λ y. get_or c.args.hits.now y false) (g.P.Payments.pays c.args.payments.now)
            c.new-2.result.flow.now.nodes c.new-2.result.flow.now.edges.now c.in_ok-after.after.items
            edges (ap (λ f. f.nodes) c.new-2.ensures ∙ c.in-Some.ensures.graph.0 ∙ c.len.ensures)
            c.in_ok-after.ensures.facts n
            (omega (
              arith,
              c.in_ok-after.ensures.nodes,
              ap (λ f. f.nodes) c.new-2.ensures,
              c.in-Some.ensures.graph.0,
              c.len.ensures,
              c.deref-2.ensures.len,
            )) in
            rw (c.deref-2.ensures.value, there.1) refl,
      ),
    ),
  ),
)

pub returns : goal.returns
returns g c = record {
  count =
      omega (
        arith,
        c.in_ok-before.ensures.count,
        c.in_ok-after.ensures.nodes,
        ap (λ f. f.nodes) c.new-2.ensures,
        c.in-Some.ensures.graph.0,
        c.len.ensures,
        c.deref-2.ensures.len,
      );
  each = λ y s lt.
      let same = ap (λ f. f.edges.now) c.new-2.ensures ∙ c.in-Some.ensures.graph.1
      ∙ c.deref.ensures.value in
      let edges = subst (AreGraphEdges (graph_of c.args.graph.now))
      (sym same) c.in_ok-edges.ensures in
      let there = facts_useful (graph_of c.args.graph.now)
      (accesses c.args.geometry.now.platform (places_of c.args.graph.now).address)
      (λ y. get_or c.args.hits.now y false) (g.P.Payments.pays c.args.payments.now)
      c.new-2.result.flow.now.nodes c.new-2.result.flow.now.edges.now c.in_ok-after.after.items
      edges (ap (λ f. f.nodes) c.new-2.ensures ∙ c.in-Some.ensures.graph.0 ∙ c.len.ensures)
      c.in_ok-after.ensures.facts y lt in
      let is = c.in_ok-before.ensures.each y s there.0
      (omega (
        arith,
        lt,
        c.in_ok-after.ensures.nodes,
        ap (λ f. f.nodes) c.new-2.ensures,
        c.in-Some.ensures.graph.0,
        c.len.ensures,
        c.deref-2.ensures.len,
      ))
      (ap (λ l. get_or l y None) c.deref-2.ensures.value ∙ there.1) in
      subst (λ b. IsTrue b ↔ UsefulUnpaid (graph_of c.args.graph.now)
      (accesses c.args.geometry.now.platform (places_of c.args.graph.now).address)
      (λ z. IsTrue (get_or c.args.hits.now z false)) (counted (g.P.Payments.pays c.args.payments.now))
      y s) (sym is)
      (there.2 s);
}
