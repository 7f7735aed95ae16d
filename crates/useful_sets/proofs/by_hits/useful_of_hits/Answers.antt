use Rattle.icache.specs.Accesses.{accesses}
use Rattle.flat_graph.specs.CodeGraph.{graph_of, places_of}
use Rattle.useful_sets.proofs.UsefulLaws.{ucb_law}
use Rattle.useful_sets.proofs.by_hits.useful_of_hits.Goals as goal

pub returns : goal.returns
returns g c s =
    let law = ucb_law (graph_of c.args.graph.now)
    (accesses c.args.geometry.now.platform (places_of c.args.graph.now).address) s in
    let sets = c.sets_of_hits.ensures s in (
      λ t. let z = sets.0 t in law.1 (z.0, z.1, (c.requires.each z.0 z.1).0 z.2, z.3),
      λ u. let z = law.0 u in sets.1 (z.0, z.1, (c.requires.each z.0 z.1).1 z.2, z.3),
    )
