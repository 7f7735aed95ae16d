use Rattle.std.proofs.Common.{◌∙◌, ◌≤◌, List, Bool, ap, arith, length, sym, subst}
use Rattle.std.proofs.lemmas.Result.{err_from_is_err_and}
use Rattle.crpd_base.specs.declared.data.Platform.{Platform}
use Rattle.crpd_base.specs.declared.data.NodeState.{NodeState}
use Rattle.flat_graph.specs.CodeGraph.{graph_of, places_of}
use Rattle.icache.specs.Accesses.{accesses}
use Rattle.evict_sets.specs.Listing.{counted}
use Rattle.must_cache.specs.Sure.{CountsSureHits}
use Rattle.useful_sets.specs.Sets.{AreUseful}
use Rattle.useful_sets.specs.Useful.{IsEcb, IsUcb}
use Rattle.crpd_base.specs.Sets.{IsSetOf}
use Rattle.cert_build.specs.Inner.Entries.{AreLeaderEntries}
use Rattle.cert_build.proofs.Analysed.{analysed, refused, ranges}
use Rattle.cert_build.proofs.one_task.analyse_points.Goals as goal

pub found_bound-requires-clause-hits : goal.found_bound-requires-clause-hits
found_bound-requires-clause-hits c =
    subst (λ (l : List Bool).
    CountsSureHits (graph_of c.args.graph.now)
    (accesses c.args.platform.now (places_of c.args.graph.now).address) (counted l))
    (sym c.deref.ensures.value)
    (subst (λ (p : Platform).
    CountsSureHits (graph_of c.args.graph.now) (accesses p (places_of c.args.graph.now).address)
    (counted c.in-Ok.parts.hits.items)) c.new-geometry.ensures c.in-Ok.ensures.hit)

pub returns-clause-exact : goal.returns-clause-exact
returns-clause-exact c =
    let g = graph_of c.args.graph.now in
    let address = (places_of c.args.graph.now).address in
    let hits : CountsSureHits g (accesses c.args.platform.now address) (counted
    c.deref.result.now) =
    subst (λ (l : List Bool). CountsSureHits g (accesses c.args.platform.now address) (counted l))
    (sym c.deref.ensures.value)
    (subst (λ (p : Platform).
    CountsSureHits g (accesses p address) (counted c.in-Ok.parts.hits.items)) c.new-geometry.ensures
    c.in-Ok.ensures.hit) in
    let entries : AreLeaderEntries g (accesses c.args.platform.now address) g.size c.new.result =
    subst (λ (l : List NodeState).
    AreLeaderEntries g (accesses c.args.platform.now address) g.size l) (sym c.new.ensures)
    (subst (λ (p : Platform).
    AreLeaderEntries g (accesses p address) g.size c.in-Ok-node_entries.entries.states.items)
    c.new-geometry.ensures c.in-Ok-node_entries.ensures.states) in
    let evicts : IsSetOf c.found_part.result.evicting
    (IsEcb g (accesses c.args.platform.now address)) =
    subst (λ (p : Platform). IsSetOf c.found_part.result.evicting (IsEcb g (accesses p address)))
    c.new-geometry.ensures c.found_part.ensures.evicting in
    let uses : IsSetOf c.found_part.result.useful (IsUcb g (accesses c.args.platform.now address)) =
    subst (λ (p : Platform). IsSetOf c.found_part.result.useful (IsUcb g (accesses p address)))
    c.new-geometry.ensures c.found_part.ensures.useful in
    analysed c.args.platform.now c.args.graph.now c.args.nest.now c.deref.result.now _ _
    c.found_part.ensures.bound hits entries evicts uses c.in_ok-cycles.ensures

pub returns-clause-useful : goal.returns-clause-useful
returns-clause-useful c =
    subst (λ (p : Platform).
    AreUseful (graph_of c.args.graph.now) (accesses p (places_of c.args.graph.now).address)
    c.in-Ok-node_entries.entries.useful.items) c.new-geometry.ensures c.in-Ok-node_entries.ensures.useful

pub returns-in_err-cycles-clause-exact : goal.returns-in_err-cycles-clause-exact
returns-in_err-cycles-clause-exact c =
    let g = graph_of c.args.graph.now in
    let address = (places_of c.args.graph.now).address in
    let hits : CountsSureHits g (accesses c.args.platform.now address) (counted
    c.deref.result.now) =
    subst (λ (l : List Bool). CountsSureHits g (accesses c.args.platform.now address) (counted l))
    (sym c.deref.ensures.value)
    (subst (λ (p : Platform).
    CountsSureHits g (accesses p address) (counted c.in-Ok.parts.hits.items)) c.new-geometry.ensures
    c.in-Ok.ensures.hit) in
    let p = err_from_is_err_and c.from_residual.result c.from_residual.ensures.1 in
    rw (p.1, p.2)
    (refused c.args.platform.now c.args.graph.now c.args.nest.now c.deref.result.now
    c.in_err-cycles.field-0.0 hits c.in_err-cycles.ensures)

pub returns-clause-ranges : goal.returns-clause-ranges
returns-clause-ranges c =
    let g = graph_of c.args.graph.now in
    let address = (places_of c.args.graph.now).address in
    let entries : AreLeaderEntries g (accesses c.args.platform.now address) g.size c.new.result =
    subst (λ (l : List NodeState).
    AreLeaderEntries g (accesses c.args.platform.now address) g.size l) (sym c.new.ensures)
    (subst (λ (p : Platform).
    AreLeaderEntries g (accesses p address) g.size c.in-Ok-node_entries.entries.states.items)
    c.new-geometry.ensures c.in-Ok-node_entries.ensures.states) in
    ranges c.args.platform.now c.args.graph.now c.args.nest.now c.deref.result.now
    c.graph_law.ensures.few c.size_law.ensures
    (record {
      part = c.found_part.result;
      states = c.new.result;
      potentials = c.in_ok-cycles.field-0.nodes;
      loops = c.in_ok-cycles.field-0.loops;
    })
    _ c.found_part.ensures.bound entries c.in_ok-cycles.ensures

pub found_bound-requires-clause-count : goal.found_bound-requires-clause-count
found_bound-requires-clause-count c =
    ap (λ (l : List Bool). length l) c.deref.ensures.value ∙ c.in-Ok.ensures.hits_count

pub node_entries-requires-clause-some : goal.node_entries-requires-clause-some
node_entries-requires-clause-some c = c.new-geometry.result.some_set

pub node_entries-requires-clause-few : goal.node_entries-requires-clause-few
node_entries-requires-clause-few c =
    subst (λ (p : Platform). p.sets ≤ 512) (sym c.new-geometry.ensures)
    (omega (arith, c.requires.platform.sets))

pub node_entries-requires-clause-parts : goal.node_entries-requires-clause-parts
node_entries-requires-clause-parts c = c.in-Ok.ensures

pub found_part-requires-clause-room : goal.found_part-requires-clause-room
found_part-requires-clause-room c =
    subst (λ (p : Platform). p.sets ≤ 512) (sym c.new-geometry.ensures)
    (omega (arith, c.requires.platform.sets))

pub found_part-requires-clause-count : goal.found_part-requires-clause-count
found_part-requires-clause-count c =
    ap (λ (l : List Bool). length l) c.deref-2.ensures.value ∙ c.in-Ok.ensures.hits_count

pub found_part-requires-clause-hits : goal.found_part-requires-clause-hits
found_part-requires-clause-hits c =
    subst (λ (l : List Bool).
    CountsSureHits (graph_of c.args.graph.now)
    (accesses c.new-geometry.result.platform (places_of c.args.graph.now).address) (counted l))
    (sym c.deref-2.ensures.value) c.in-Ok.ensures.hit

pub returns-in_default-clause-exact : goal.returns-in_default-clause-exact
returns-in_default-clause-exact c = tt
