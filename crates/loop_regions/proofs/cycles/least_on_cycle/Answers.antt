use Rattle.std.proofs.Common.{subst, ⊎_elim, arith}
use Rattle.std.proofs.lemmas.Bool.{cases_eq, cases_lt, both_ways}
use Rattle.flat_graph.specs.CodeGraph.{graph_of}
use Rattle.loop_regions.specs.Stated.{IsOnCycle}
use Rattle.loop_regions.specs.Inner.FoundRegions.{nest_in}
use Rattle.loop_regions.proofs.Searching.{no_cycle, cycle_within}
use Rattle.loop_regions.proofs.cycles.least_on_cycle.Goals as goal

pub returns-then-all_fall : goal.returns-then-all_fall
returns-then-all_fall c =
    no_cycle (graph_of c.args.graph.now) (nest_in c.args.regions.now) c.deref.result.now
    (c.all_fall.ensures c.if-all_fall.true)

pub returns-then-branch : goal.returns-then-branch
returns-then-branch c = (
  c.in_ok-is_on_cycle.ensures.0 c.if-branch.true,
  λ b o. ⊎_elim (λ lt. absurd (c.loop-y.invariant b lt o)) (λ le. le) (cases_lt b c.loop-y.y),
)

pub loop-y-preserved : goal.loop-y-preserved
loop-y-preserved c z lt o =
    ⊎_elim
    (λ e. both_ways c.in_ok-is_on_cycle.field-0 c.if-branch.false
    (c.in_ok-is_on_cycle.ensures.1
    (subst (λ x. IsOnCycle (graph_of c.args.graph.now) (nest_in c.args.regions.now) x) e o)))
    (λ ne. c.loop-y.invariant z (omega arith) o)
    (cases_eq z c.loop-y.y)

pub returns : goal.returns
returns c a o =
    c.loop-y.invariant a (let w =
    cycle_within (graph_of c.args.graph.now) (nest_in c.args.regions.now) a o in omega arith) o
