use Rattle.std.proofs.Common.{◌≡◌, Bool, List, ◌∷◌, [], ◌++◌, ◌∙◌, subst, length, length-append}
use Rattle.std.proofs.Common.{arith}
use Rattle.crpd_base.proofs.Elements.{pushed_each}
use Rattle.crpd_base.specs.declared.data.Part.{Part}
use Rattle.loop_regions.specs.CodeNest.{CodeNest}
use Rattle.flat_graph.specs.CodeGraph.{CodeGraph, graph_at}
use Rattle.loop_regions.specs.TaskGraphs.{task_graph, nest_at}
use Rattle.cert_check.proofs.Tasks.{graph_is}
use Rattle.sensitivity.specs.Accepted.{HasCacheBlocks}
use Rattle.sensitivity.specs.Inner.Found.{TellsHits}
use Rattle.sensitivity.proofs.analysis.all_known.Goals as goal

pub loop-k-preserved : goal.loop-k-preserved
loop-k-preserved c =
    let part : Part = c.in_ok-known.known.part in
    let list : List Bool = c.in_ok-known.known.hits in
    let stored : c.push.new.self.items ≡ c.loop-k.parts.items ++ part ∷ [] =
    c.in_ok-push.ensures.items in
    let kept : c.push-in-loop-k.new.self.items ≡ c.loop-k.hits.items ++ list ∷ [] =
    c.in_ok-push-2.ensures.items in
    let here = graph_is c.args.graphs.now c.loop-k.k c.index-graphs-k.result c.loop-k-test.true
    c.index-graphs-k.is in
    record {
      parts = rw stored (simp length-append (omega (arith, c.loop-k.invariant.parts)));
      sets =
          pushed_each (λ j (x : Part). (nest : CodeNest)
          → HasCacheBlocks c.args.set.now.platform (task_graph (graph_at c.args.graphs.now j) nest)
          x) c.loop-k.parts.items c.push.new.self.items part _ c.loop-k.k stored
          c.loop-k.invariant.parts c.loop-k.invariant.sets
          (λ nest.
          subst (λ (g : CodeGraph). HasCacheBlocks c.args.set.now.platform (task_graph g nest) part)
          here (c.in_ok-known.ensures.sets nest));
      lists = rw kept (simp length-append (omega (arith, c.loop-k.invariant.lists)));
      hits =
          pushed_each (λ j (x : List Bool). (nest : CodeNest)
          → TellsHits c.args.set.now.platform (task_graph (graph_at c.args.graphs.now j) nest) x)
          c.loop-k.hits.items c.push-in-loop-k.new.self.items list [] c.loop-k.k kept
          c.loop-k.invariant.lists c.loop-k.invariant.hits
          (λ nest.
          subst (λ (g : CodeGraph). TellsHits c.args.set.now.platform (task_graph g nest) list) here
          (c.in_ok-known.ensures.hits nest));
    }

pub returns-clause-sets : goal.returns-clause-sets
returns-clause-sets c nests =
    let all : c.loop-k.k ≡ length c.args.set.now.tasks = omega arith in
    record {
      count = c.loop-k.invariant.parts ∙ all;
      each = λ k lt. c.loop-k.invariant.sets k (omega (arith, lt, all)) (nest_at nests k);
    }

pub returns-clause-hits : goal.returns-clause-hits
returns-clause-hits c nests =
    let all : c.loop-k.k ≡ length c.args.set.now.tasks = omega arith in
    record {
      count = c.loop-k.invariant.lists ∙ all;
      each = λ k lt. c.loop-k.invariant.hits k (omega (arith, lt, all)) (nest_at nests k);
    }
