use Rattle.std.proofs.Common.{ℕ, List, subst, Result, Ok, Err, IfOk}
use Rattle.crpd_base.specs.declared.data.LoopAt.{LoopAt}
use Rattle.flat_graph.specs.CodeGraph.{graph_of, places_of}
use Rattle.loop_regions.specs.Stated.{IsSameHead, IsLoopRefused, SameHead}
use Rattle.loop_regions.proofs.found_nest.regions.Goals as goal

whatever : {A E : Type 0} (P : Type 0) (r : Result A E) → P → IfOk r (λ _. P)
whatever P (Ok x) h = h
whatever P (Err e) h = tt

pub returns-in-Some-clause-refused : goal.returns-in-Some-clause-refused
returns-in-Some-clause-refused c = λ n.
    subst (λ (loops : List LoopAt).
    IsLoopRefused (graph_of c.args.graph.now) (places_of c.args.graph.now) loops n
    (SameHead c.in-Some.address)) c.as_slice-loops.ensures c.in-Some.ensures

pub returns-clause-one_head : goal.returns-clause-one_head
returns-clause-one_head c =
    whatever ((a : ℕ) → IsSameHead c.args.plan.now.loops a → ⊥) c.nest_of_found.result
    (subst (λ (loops : List LoopAt). (a : ℕ) → IsSameHead loops a → ⊥) c.as_slice-loops.ensures
    c.in_default.ensures)
