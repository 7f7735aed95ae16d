use Rattle.std.proofs.Common.{◌≡◌, ◌∙◌, List, Bool, length, drop, sym, ap, subst, arith}
use Rattle.std.proofs.lemmas.List.{take_at}
use Rattle.flat_graph.specs.CodeGraph.{CodeGraph, graph_of}
use Rattle.evict_sets.specs.ListedPart.{listed_of}
use Rattle.evict_sets.specs.Listing.{CountsHits, node_accesses, counted}
use Rattle.evict_sets.proofs.states.hits.Goals as goal

pub write_hits-requires-clause-case : goal.write_hits-requires-clause-case
write_hits-requires-clause-case c =
    let made = c.new-listing.ensures in
    rw (made.platform, made.graph, made.part) (record {
      platform = c.requires.platform;
      sets = c.requires.sets;
      index = made.index;
      leaders = c.requires.leaders;
    })

pub returns-clause-hits : goal.returns-clause-hits
returns-clause-hits c =
    let graph = c.args.graph.now in
    let made = c.new-listing.ensures in
    let new = c.write_hits.new.hits in
    let all : length new ≡ c.in_ok-hits.hits.len =
    omega (arith, c.write_hits.auto.hits, c.as_mut_slice.ensures.len) in
    subst (λ (hits : List Bool). CountsHits (graph_of graph)
    (node_accesses c.args.platform.now graph)
    (listed_of c.args.part.now) (counted hits))
    (sym (take_at new (drop (length new) c.in_ok-hits.hits.items) c.in_ok-hits.hits.len all))
    (rw (made.platform, made.graph, made.part) at c.write_hits.ensures.hits)

pub returns-clause-count : goal.returns-clause-count
returns-clause-count c =
    let new = c.write_hits.new.hits in
    let all : length new ≡ c.in_ok-hits.hits.len =
    omega (arith, c.write_hits.auto.hits, c.as_mut_slice.ensures.len) in
    ap length (take_at new (drop (length new) c.in_ok-hits.hits.items) c.in_ok-hits.hits.len all)
    ∙ c.write_hits.ensures.count
    ∙ ap (λ (g : CodeGraph). (graph_of g).size) c.new-listing.ensures.graph
