use Rattle.std.proofs.Common.{Bool, List, sym, subst}
use Rattle.crpd_base.specs.declared.data.Part.{Part}
use Rattle.loop_regions.specs.TaskGraphs.{task_graph_at}
use Rattle.sensitivity.specs.Inner.Found.{HaveCacheBlocks, HaveHits}
use Rattle.sensitivity.proofs.greatest.greatest_miss.Goals as goal

pub greatest-requires-clause-known : goal.greatest-requires-clause-known
greatest-requires-clause-known c = (
  subst (λ (parts : List Part).
      HaveCacheBlocks c.args.set.now (task_graph_at c.args.graphs.now c.args.nests.now) parts)
      (sym c.deref.ensures.value) (c.in_ok-known.ensures.sets c.args.nests.now),
  subst (λ (hits : List (List Bool)).
      HaveHits c.args.set.now (task_graph_at c.args.graphs.now c.args.nests.now) hits)
      (sym c.deref-2.ensures.value) (c.in_ok-known.ensures.hits c.args.nests.now),
)
