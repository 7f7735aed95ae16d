use Rattle.std.proofs.Common.{◌≡◌, ◌<◌, ◌==◌, ℕ, if◌then◌else◌, List, [], Some, None, length, get_or}
use Rattle.std.proofs.Common.{sym, ap, ◌∙◌, subst, arith}
use Rattle.std.proofs.lemmas.List.{get_or_default}
use Rattle.crpd_base.specs.Sets.{has}
use Rattle.icache.specs.Accesses.{accesses}
use Rattle.icache.specs.Cache.{Cache, held, set_of, block_of}
use Rattle.flat_graph.specs.CodeGraph.{graph_of, places_of}
use Rattle.must_cache.specs.Events.{events, after_node}
use Rattle.must_cache.specs.Marks.{sets_at}
use Rattle.must_cache.specs.States.{state_at}
use Rattle.must_cache.proofs.PaymentFacts.{after_kept}
use Rattle.must_cache.proofs.payments.kept_after.Goals as goal

pub returns : goal.returns
returns g c kept =
    let p = c.args.geometry.now.platform in
    let gr = graph_of c.args.graph.now in
    let e = events (accesses p (places_of c.args.graph.now).address)
    (g.B.Brings.brings c.args.brings.now) (g.B.Brings.at_start c.args.brings.now) in
    let y = c.args.node.0 in
    let parts = c.args.parts.now in
    let h = c.requires.parts.kept y c.requires.node kept in
    let marks : c.index-3.result.now ≡ sets_at parts.unsure.items y =
    c.index-3.ensures ∙ get_or_default parts.unsure.items y _ []
    (omega (arith, c.requires.node, c.requires.parts.unsure_count)) in
    let place : get_or parts.places.items y None ≡ Some c.in-Some.place =
    get_or_default parts.places.items y None _
    (omega (arith, c.requires.node, c.requires.parts.places_count)) ∙ sym c.index.ensures
    ∙ c.in-Some.is in
    let same : h.at ≡ c.in-Some.place = let q : Some h.at ≡ Some c.in-Some.place =
    sym h.is ∙ place in cc in
    let within : c.in-Some.place < length parts.states.items =
    subst (λ k. k < length parts.states.items) same h.within in
    let read : c.index-2.result.now ≡ state_at parts.states.items h.at =
    c.index-2.ensures ∙ get_or_default parts.states.items c.in-Some.place _ [] within
    ∙ ap (λ k. state_at parts.states.items k) (sym same) in
    after_kept gr e y _ parts.states.items (sets_at parts.unsure.items y) c.access.new.self
    c.graph_law.ensures.graph c.requires.node h
    (λ t.
    let accessed = subst (λ (k : ℕ). held c.access.new.self t
    ≡ (if set_of p (block_of p k) == t then Some (block_of p k)
    else held c.forget.new.self t)) c.address.ensures (c.access.ensures t) in
    accessed ∙ ap (after_node e t y)
    (c.forget.ensures t
    ∙ ap (λ (w : List ℕ). if has w t then None else held c.index-2.result.now t) marks
    ∙ ap (λ (st : Cache). if has (sets_at parts.unsure.items y) t then None else held st t) read))
