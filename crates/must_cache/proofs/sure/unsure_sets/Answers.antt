use Rattle.std.proofs.Common.{◌<◌, ℕ, List, Option, Some, get_or, length, refl}
use Rattle.std.proofs.Common.{sym, ap, ◌∙◌, subst, arith, IsSome, None}
use Rattle.std.proofs.lemmas.List.{length-map}
use Rattle.crpd_base.specs.Sets.{has}
use Rattle.dataflow.specs.Problem.{fact_at}
use Rattle.flat_graph.specs.CodeGraph.{graph_of, places_of}
use Rattle.icache.specs.Accesses.{accesses}
use Rattle.must_cache.specs.Marks.{sets_at}
use Rattle.must_cache.specs.Inner.GraphFacts.{AreGraphFacts, along}
use Rattle.must_cache.specs.Inner.Marks.{Marks, either_marks, marks_after_access}
use Rattle.must_cache.specs.Inner.Marks.{marks_across}
use Rattle.must_cache.proofs.WalkFacts.{present}
use Rattle.must_cache.proofs.sure.unsure_sets.Goals as goal

pub invariant_of-domain : goal.invariant_of-domain
invariant_of-domain g c = record {
  few = c.requires.few;
  room = c.requires.room;
  all_apart = c.requires.apart;
}

pub graph_facts-requires : goal.graph_facts-requires
graph_facts-requires g c = λ n lt. (lt, c.requires.own n lt)

pub all_present-requires : goal.all_present-requires
all_present-requires g c = λ n lt.
    let gr = graph_of c.args.graph.now in
    let a = accesses c.args.geometry.now.platform (places_of c.args.graph.now).address in
    let apart : ℕ → Marks = λ y s. has (sets_at c.args.apart.now y) s in
    let least = c.in_ok-facts.ensures.least in
    let p = along either_marks (marks_after_access a.set)
    (marks_across (g.B.Brings.brings c.args.brings.now)) (λ y. Some (apart y)) gr least.edges in
    let below : n < gr.size =
    omega (arith, lt, c.in_ok-facts.ensures.count, c.deref.ensures.len) in
    let there = present p has n (apart n) (get_or c.in_ok-facts.facts.items n None) below refl
    (least.joins n below) in
    subst (λ (l : List (Option (List ℕ))). IsSome (get_or l n None)) (sym c.deref.ensures.value)
    there

pub returns-clause-count : goal.returns-clause-count
returns-clause-count g c =
    let all = ap length c.in_ok-unsure.ensures in
    let same = length-map c.in_ok-unsure.unsure.items Some in
    omega (arith, all, same, c.in_ok-facts.ensures.count, c.deref.ensures.len)

pub returns-clause-least : goal.returns-clause-least
returns-clause-least g c =
    let gr = graph_of c.args.graph.now in
    let a = accesses c.args.geometry.now.platform (places_of c.args.graph.now).address in
    subst (λ (l : List (Option (List ℕ))). AreGraphFacts Marks gr
    (along either_marks (marks_after_access a.set)
    (marks_across (g.B.Brings.brings c.args.brings.now))
    (λ n. Some (λ s. has (sets_at c.args.apart.now n) s)) gr) (fact_at has l))
    (sym (c.in_ok-unsure.ensures ∙ c.deref.ensures.value)) c.in_ok-facts.ensures.least
