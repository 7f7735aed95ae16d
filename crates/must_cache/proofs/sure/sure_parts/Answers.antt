use Rattle.flat_graph.specs.CodeGraph.{graph_of, places_of}
use Rattle.icache.specs.Accesses.{accesses}
use Rattle.must_cache.proofs.PrepaidLaws.{sure_from_prepaid}
use Rattle.must_cache.proofs.sure.sure_parts.Goals as goal

pub returns : goal.returns
returns g c =
    sure_from_prepaid (graph_of c.args.graph.now)
    (accesses c.args.geometry.now.platform (places_of c.args.graph.now).address)
    c.in_ok-parts.parts.places.items c.in_ok-parts.parts.states.items
    c.in_ok-parts.parts.hits.items c.in_ok-parts.parts.unsure.items c.in_ok-parts.ensures
