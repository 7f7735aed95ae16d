use Rattle.std.proofs.Common.{◌≡◌, ◌≤◌, ◌<◌, Bool, List, length, get_or, ◌∷◌, [], ◌++◌, ◌∙◌, sym}
use Rattle.std.proofs.Common.{subst, length-append, arith}
use Rattle.std.proofs.lemmas.List.{get_or_default}
use Rattle.crpd_base.proofs.Elements.{pushed_each}
use Rattle.crpd_base.specs.declared.data.Part.{Part}
use Rattle.delay_count.specs.Gamma.{part_at}
use Rattle.loop_regions.specs.TaskGraph.{TaskGraph}
use Rattle.flat_graph.specs.CodeGraph.{CodeGraph}
use Rattle.loop_regions.specs.CodeNest.{CodeNest, IsNestOf}
use Rattle.loop_regions.specs.TaskGraphs.{task_graph, task_graph_at, nest_at}
use Rattle.cert_check.proofs.Tasks.{graph_is, nest_is}
use Rattle.exec_bound.specs.Costs.{greatest_bound}
use Rattle.sensitivity.specs.Accepted.{IsLeastBound, IsAnalysedPart}
use Rattle.sensitivity.specs.Inner.Found.{IsLarge, TellsHits}
use Rattle.sensitivity.proofs.Parts.{moved, with_bound}
use Rattle.sensitivity.proofs.analysis.with_bounds.Goals as goal

-- the task's own list of hits
pub task_bound-requires-clause-hits : goal.task_bound-requires-clause-hits
task_bound-requires-clause-hits c =
    let task : c.loop-k.k < length c.args.set.now.tasks =
    omega (arith, c.loop-k-test.true, c.requires.tasks.all_graphs) in
    let listed : c.loop-k.k < length c.args.hits.now = omega (arith, task, c.requires.hits.count) in
    let graph = graph_is c.args.graphs.now c.loop-k.k c.index-graphs-k.result c.loop-k-test.true
    c.index-graphs-k.is in
    let nest = nest_is c.args.nests.now c.loop-k.k c.index-nests-k.result
    (omega (arith, task, c.requires.tasks.all_nests)) c.index-nests-k.is in
    let list = c.as_slice-sure.ensures ∙ c.index-hits-k.is
    ∙ get_or_default c.args.hits.now c.loop-k.k c.index-hits-k.result [] listed in
    subst (λ (l : List Bool).
    TellsHits c.args.set.now.platform (task_graph c.index-graphs-k.result c.index-nests-k.result) l)
    (sym list)
    (subst (λ (n : CodeNest).
    TellsHits c.args.set.now.platform (task_graph c.index-graphs-k.result n)
    (get_or c.args.hits.now c.loop-k.k [])) (sym nest)
    (subst (λ (g : CodeGraph).
    TellsHits c.args.set.now.platform (task_graph g (nest_at c.args.nests.now c.loop-k.k))
    (get_or c.args.hits.now c.loop-k.k [])) (sym graph)
    (c.requires.hits.each c.loop-k.k task)))

pub returns-in_default : goal.returns-in_default
returns-in_default c =
    let task : c.loop-k.k < length c.args.set.now.tasks =
    omega (arith, c.loop-k-test.true, c.requires.tasks.all_graphs) in
    let large = moved (λ (t : TaskGraph). IsLarge c.args.set.now.platform t) c.index-graphs-k.result
    c.index-nests-k.result c.args.graphs.now c.args.nests.now c.loop-k.k
    (graph_is c.args.graphs.now c.loop-k.k c.index-graphs-k.result c.loop-k-test.true
    c.index-graphs-k.is)
    (nest_is c.args.nests.now c.loop-k.k c.index-nests-k.result
    (omega (arith, task, c.requires.tasks.all_nests)) c.index-nests-k.is)
    (rw c.in_default.is at c.in_ok-cycles.ensures) in
    record {
      task = task;
      cycles = large.0;
      bound = large.1;
      large = large.2;
      higher = λ j lt. (
        (part_at c.loop-k.parts.items j).bound,
        (c.loop-k.invariant.each j lt).bound,
        c.loop-k.invariant.within j lt,
      );
    }

pub loop-k-preserved : goal.loop-k-preserved
loop-k-preserved c =
    let task : c.loop-k.k < length c.args.set.now.tasks =
    omega (arith, c.loop-k-test.true, c.requires.tasks.all_graphs) in
    let part : Part = record c.index-sets-k.result { bound = c.in-Some.cycles } in
    let stored : c.push.new.self.items ≡ c.loop-k.parts.items ++ part ∷ [] =
    c.in_ok-push.ensures.items in
    let found = moved (λ (t : TaskGraph). IsLeastBound c.args.set.now.platform t c.in-Some.cycles
    × (c.in-Some.cycles ≤ greatest_bound)) c.index-graphs-k.result c.index-nests-k.result
    c.args.graphs.now c.args.nests.now c.loop-k.k
    (graph_is c.args.graphs.now c.loop-k.k c.index-graphs-k.result c.loop-k-test.true
    c.index-graphs-k.is)
    (nest_is c.args.nests.now c.loop-k.k c.index-nests-k.result
    (omega (arith, task, c.requires.tasks.all_nests)) c.index-nests-k.is)
    (rw c.in-Some.is at c.in_ok-cycles.ensures) in
    record {
      count = rw stored (simp length-append (omega (arith, c.loop-k.invariant.count)));
      each =
          pushed_each (λ j (q : Part).
          IsAnalysedPart c.args.set.now.platform
          (task_graph_at c.args.graphs.now c.args.nests.now j) q) c.loop-k.parts.items
          c.push.new.self.items part _ c.loop-k.k stored c.loop-k.invariant.count
          c.loop-k.invariant.each
          (with_bound c.args.set.now.platform
          (task_graph_at c.args.graphs.now c.args.nests.now c.loop-k.k) c.args.sets.now c.loop-k.k
          c.index-sets-k.result c.in-Some.cycles (omega (arith, task, c.requires.sets.count))
          c.index-sets-k.is (c.requires.sets.each c.loop-k.k task) found.0);
      within =
          pushed_each (λ j (q : Part). q.bound ≤ greatest_bound) c.loop-k.parts.items
          c.push.new.self.items part _ c.loop-k.k stored c.loop-k.invariant.count
          c.loop-k.invariant.within found.1;
    }

pub task_bound-requires-clause-nest : goal.task_bound-requires-clause-nest
task_bound-requires-clause-nest c =
    let task : c.loop-k.k < length c.args.set.now.tasks =
    omega (arith, c.loop-k-test.true, c.requires.tasks.all_graphs) in
    let graph = graph_is c.args.graphs.now c.loop-k.k c.index-graphs-k.result c.loop-k-test.true
    c.index-graphs-k.is in
    let nest = nest_is c.args.nests.now c.loop-k.k c.index-nests-k.result
    (omega (arith, task, c.requires.tasks.all_nests)) c.index-nests-k.is in
    subst (λ (n : CodeNest). IsNestOf c.index-graphs-k.result n) (sym nest)
    (subst (λ (g : CodeGraph). IsNestOf g (nest_at c.args.nests.now c.loop-k.k)) (sym graph)
    (c.requires.tasks.each c.loop-k.k task))

pub returns : goal.returns
returns c =
    let all : c.loop-k.k ≡ length c.args.set.now.tasks =
    omega (arith, c.loop-k-test.false, c.loop-k.auto.k-end, c.requires.tasks.all_graphs) in
    record {
      count = c.loop-k.invariant.count ∙ all;
      are = record {
        each = λ j lt. c.loop-k.invariant.each j (omega (arith, lt, all));
        within = λ j lt. c.loop-k.invariant.within j (omega (arith, lt, all));
      };
    }
