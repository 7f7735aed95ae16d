use Rattle.std.proofs.Common.{ℕ, ◌<◌, Bool, List, Option, MatchOption, IsTrue, false, get_or, sym}
use Rattle.std.proofs.Common.{subst}
use Rattle.crpd_base.specs.Limits.{longest_time}
use Rattle.evict_sets.specs.Listing.{counted}
use Rattle.flat_graph.specs.CodeGraph.{CodeGraph, graph_of, places_of}
use Rattle.icache.specs.Accesses.{accesses}
use Rattle.loop_regions.specs.TaskGraphs.{task_graph}
use Rattle.must_cache.specs.Prepaid.{CountsPrepaidHits}
use Rattle.useful_sets.specs.Unpaid.{AreUsefulUnpaid}
use Rattle.persistent_blocks.specs.Inner.Brought.{region_events}
use Rattle.persistent_blocks.specs.Inner.Paid.{is_paid}
use Rattle.persistent_blocks.specs.PersistentPart.{IsPrepaidBound}
use Rattle.persistent_blocks.proofs.PartFound.{part_found}
use Rattle.persistent_blocks.proofs.part.paid_part.Goals as goal

pub returns-in-Some-clause-exact : goal.returns-in-Some-clause-exact
returns-in-Some-clause-exact c =
    let p = c.args.geometry.now.platform in
    let b = c.args.brings.now in
    let g = b.graph.now in
    let t = task_graph g b.nest.now in
    let a = accesses p (places_of g).address in
    let e = region_events p g b.nest.now b.heads.items b.blocks.items in
    let table = c.in_ok-table.table.sets.items in
    let hits = c.as_slice-hits.result.now in
    let counts : CountsPrepaidHits (graph_of g) e (counted hits) =
    subst (λ (l : List Bool). CountsPrepaidHits (graph_of g) e (counted l))
    (sym c.as_slice-hits.ensures.value) c.in_ok-parts.ensures.hit in
    let found = subst (λ (o : Option ℕ). MatchOption o
    ((bound : ℕ) × IsPrepaidBound p t e bound × (longest_time < bound))
    (λ bound. IsPrepaidBound p t e bound)) c.in-Some.is c.in_ok-cycles.ensures in
    let bound : IsPrepaidBound p t e c.part_of-part.result.bound =
    subst (λ k. IsPrepaidBound p t e k) (sym c.part_of-part.ensures.bound) found in
    let useful = subst (λ (x : CodeGraph).
    AreUsefulUnpaid (graph_of g) a (λ z. IsTrue (get_or hits z false))
    (λ u v s. IsTrue (is_paid (graph_of x) table u v s)) c.in_ok-useful-in-Some.useful.items)
    c.in_ok-table.ensures.graph c.in_ok-useful-in-Some.ensures in
    part_found p g b.nest.now e c.requires.platform.sets.0 c.requires.platform.sets.1
    c.requires.events table hits c.in_ok-table.ensures.counts counts c.part_of-part.result
    c.in_ok-useful-in-Some.useful.items bound c.part_of-part.ensures.evicting
    c.part_of-part.ensures.useful useful
