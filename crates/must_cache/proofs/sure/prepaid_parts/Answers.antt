use Rattle.std.proofs.Common.{◌≡◌, ◌<◌, arith, List, [], ℕ, length, get_or, map, None, Some, refl}
use Rattle.std.proofs.Common.{sym, ap, ◌∙◌, subst, false, lit<}
use Rattle.std.proofs.lemmas.List.{get_or-map}
use Rattle.crpd_base.specs.Sets.{has}
use Rattle.flat_graph.specs.CodeGraph.{graph_of, places_of}
use Rattle.icache.specs.Accesses.{accesses}
use Rattle.must_cache.specs.Events.{events}
use Rattle.must_cache.specs.Marks.{sets_at}
use Rattle.must_cache.specs.FirstWalks.{HoldsPrepaid}
use Rattle.must_cache.specs.Inner.FirstWalks.{HaveWalks}
use Rattle.must_cache.proofs.WalkFacts.{IsFound, found_sure}
use Rattle.must_cache.proofs.sure.prepaid_parts.Goals as goal

pub first_walks-requires : goal.first_walks-requires
first_walks-requires g c = (
  lit< tt,
  (c.requires.room, (c.requires.few, (c.requires.room_for_sets, c.requires.own))),
)

pub unsure_sets-requires : goal.unsure_sets-requires
unsure_sets-requires g c = (
  omega (arith, c.requires.few),
  (
    c.requires.few,
    (
      omega (arith, c.requires.room, c.requires.room_for_sets),
      (
        c.requires.own,
        ap length c.deref.ensures.value ∙ c.in_ok-walks.ensures.apart_count,
      ),
    ),
  ),
)

pub sure_ones-requires : goal.sure_ones-requires
sure_ones-requires g c = (
  omega (arith, c.requires.few),
  (
    c.requires.few,
    (
      omega (arith, c.requires.room, c.requires.room_for_sets),
      (
        ap length c.deref-2.ensures.value ∙ c.in_ok-walks.ensures.hits_count,
        ap length c.deref-3.ensures.value ∙ c.in_ok-unsure.ensures.count,
      ),
    ),
  ),
)

pub returns : goal.returns
returns g c =
    let gr = graph_of c.args.graph.now in
    let a = events (accesses c.args.geometry.now.platform (places_of c.args.graph.now).address)
    (g.B.Brings.brings c.args.brings.now) (g.B.Brings.at_start c.args.brings.now) in
    let walks = subst
    (HaveWalks gr a c.in_ok-walks.walks.met.items c.in_ok-walks.walks.states.items
    c.in_ok-walks.walks.hits.items) (sym c.deref.ensures.value) c.in_ok-walks.ensures in
    let facts = c.in_ok-unsure.ensures.least in
    let unsure = c.in_ok-unsure.unsure.items in
    let found : (y : ℕ) → y < gr.size
    → IsFound gr a (get_or c.in_ok-walks.walks.met.items y None) c.in_ok-walks.walks.states.items
    (get_or c.in_ok-walks.walks.hits.items y false) (get_or (map Some unsure) y None) y =
    found_sure gr a c.in_ok-walks.walks.met.items c.in_ok-walks.walks.states.items
    c.in_ok-walks.walks.hits.items c.deref.result.now gr.size facts.edges (map Some unsure)
    c.graph_law.ensures.graph facts.are refl walks facts.joins facts.least in
    let sets : (y : ℕ) (lt : y < gr.size) → (found y lt).sets ≡ sets_at unsure y = λ y lt.
    let read : Some (found y lt).sets ≡ Some (sets_at unsure y) =
    sym (found y lt).is
    ∙ get_or-map Some unsure y [] None (omega (arith, lt, c.in_ok-unsure.ensures.count)) in cc in
    record {
      hits_count = c.in_ok-hits.ensures.count;
      places_count = c.in_ok-walks.ensures.met_count;
      unsure_count = c.in_ok-unsure.ensures.count;
      hit = λ y lt.
          let made = c.in_ok-hits.ensures.each y lt in
          let f = found y lt in
          let same = ap (λ l. get_or l y false) c.deref-2.ensures.value in
          let marks : has f.sets (a.set y) ≡ has (sets_at c.deref-3.result.now y) (a.set y) =
          ap (λ (w : List ℕ). has w (a.set y))
          (sets y lt ∙ ap (λ l. sets_at l y) (sym c.deref-3.ensures.value)) in (
            λ t. let m = made.0 t in f.hits.0 (sym same ∙ m.0, marks ∙ m.1),
            λ s. let m = f.hits.1 s in made.1 (same ∙ m.0, sym marks ∙ m.1),
          );
      kept = λ y lt l.
          subst (λ w. HoldsPrepaid gr a (get_or c.in_ok-walks.walks.met.items y None)
          c.in_ok-walks.walks.states.items w y) (sets y lt) ((found y lt).kept l);
    }
