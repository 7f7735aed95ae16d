use Rattle.icache.specs.Accesses.{accesses}
use Rattle.crpd_base.specs.Sets.{has}
use Rattle.flat_graph.specs.CodeGraph.{graph_of, places_of}
use Rattle.must_cache.specs.Events.{events}
use Rattle.must_cache.proofs.PaymentFacts.{pays_differing}
use Rattle.must_cache.proofs.payments.edge_payments.Goals as goal

pub returns-in-Some : goal.returns-in-Some
returns-in-Some g c s =
    pays_differing (graph_of c.args.graph.now)
    (events (accesses c.args.geometry.now.platform (places_of c.args.graph.now).address)
    (g.B.Brings.brings c.args.brings.now) (g.B.Brings.at_start c.args.brings.now))
    c.args.source.0 c.args.target.0 s c.in-Some.after c.put.new.state (has c.differing.result s)
    c.in-Some.ensures (c.put.ensures s) (c.differing.ensures s)
