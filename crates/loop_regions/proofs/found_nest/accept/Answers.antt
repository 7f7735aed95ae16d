use Rattle.std.proofs.Common.{sym, subst}
use Rattle.flat_graph.specs.CodeGraph.{graph_of, places_of}
use Rattle.loop_regions.specs.Stated.{IsSecondEntry, IsNotNested, IsOnCycle}
use Rattle.loop_regions.specs.Inner.Least.{IsLeastNumber}
use Rattle.loop_regions.specs.Inner.FoundRegions.{nest_in}
use Rattle.loop_regions.proofs.LeastNodes.{least_at, entry_within, not_nested_within}
use Rattle.loop_regions.proofs.Searching.{cycle_within}
use Rattle.loop_regions.proofs.found_nest.accept.Goals as goal

pub returns-in-Some-clause-refused : goal.returns-in-Some-clause-refused
returns-in-Some-clause-refused c =
    let g = graph_of c.args.graph.now in
    let p = places_of c.args.graph.now in
    let n = nest_in c.args.found.now in (
      n,
      c.requires.regions,
      (
        c.requires.one_head,
        least_at g p (IsSecondEntry g n) c.in-Some.v c.node.result.address c.in-Some.ensures
            (entry_within g p c.args.loops.now n c.requires.regions c.in-Some.v c.in-Some.ensures.0)
            (sym c.node.ensures.address),
      ),
    )

pub returns-in-Some-not_nested-clause-refused : goal.returns-in-Some-not_nested-clause-refused
returns-in-Some-not_nested-clause-refused c =
    let g = graph_of c.args.graph.now in
    let p = places_of c.args.graph.now in
    let n = nest_in c.args.found.now in (
      n,
      c.requires.regions,
      (
        c.requires.one_head,
        c.in_default.ensures,
        least_at g p (IsNotNested n) c.in-Some-not_nested.v c.node-in-Some-not_nested.result.address
            c.in-Some-not_nested.ensures
            (not_nested_within g p c.args.loops.now n c.requires.regions c.in-Some-not_nested.v
            c.in-Some-not_nested.ensures.0) (sym c.node-in-Some-not_nested.ensures.address),
      ),
    )

pub node-requires-in-Some-2 : goal.node-requires-in-Some-2
node-requires-in-Some-2 c =
    let g = graph_of c.args.graph.now in
    let n = nest_in c.args.found.now in
    let least = subst (λ o. IsLeastNumber (IsOnCycle g n) o) c.in-Some-2.is c.in_ok-v.ensures in
    cycle_within g n c.in-Some-2.v least.0

pub returns-in-Some-2-clause-refused : goal.returns-in-Some-2-clause-refused
returns-in-Some-2-clause-refused c =
    let g = graph_of c.args.graph.now in
    let p = places_of c.args.graph.now in
    let n = nest_in c.args.found.now in
    let least = subst (λ o. IsLeastNumber (IsOnCycle g n) o) c.in-Some-2.is c.in_ok-v.ensures in (
      n,
      c.requires.regions,
      (
        c.requires.one_head,
        c.in_default.ensures,
        c.in_default-not_nested.ensures,
        least_at g p (IsOnCycle g n) c.in-Some-2.v c.node-in-Some-2.result.address least
            (cycle_within g n c.in-Some-2.v least.0) (sym c.node-in-Some-2.ensures.address),
      ),
    )

pub returns-clause-accepted : goal.returns-clause-accepted
returns-clause-accepted c =
    let g = graph_of c.args.graph.now in
    let n = nest_in c.args.found.now in
    record {
      one_entry = c.in_default.ensures;
      nested = c.in_default-not_nested.ensures;
      no_cycle = subst (λ o. IsLeastNumber (IsOnCycle g n) o) c.in_default-2.is c.in_ok-v.ensures;
    }
