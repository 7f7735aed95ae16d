use Rattle.std.proofs.Common.{◌+◌, subst, sym, arith}
use Rattle.flat_graph.specs.CodeGraph.{graph_of}
use Rattle.loop_regions.specs.Inner.Least.{IsLeastNumber}
use Rattle.loop_regions.specs.Inner.FoundRegions.{nest_in}
use Rattle.loop_regions.proofs.SecondEntries.{IsEntryBelow, first_entry, next_entry, all_entries}
use Rattle.loop_regions.proofs.second_entry.least_second_entry.Goals as goal

pub loop-u-init : goal.loop-u-init
loop-u-init c =
    first_entry (graph_of c.args.graph.now) (nest_in c.args.regions.now) c.inside_start-least.result
    c.inside_start-least.ensures

pub loop-u-preserved : goal.loop-u-preserved
loop-u-preserved c =
    subst (λ o. IsLeastNumber
    (IsEntryBelow (graph_of c.args.graph.now) (nest_in c.args.regions.now) (c.loop-u.u + 1)) o)
    (sym c.lesser-least.ensures)
    (next_entry (graph_of c.args.graph.now) (nest_in c.args.regions.now) c.loop-u.u c.loop-u.least
    c.entered_from.result c.loop-u.invariant c.entered_from.ensures)

pub returns : goal.returns
returns c =
    all_entries (graph_of c.args.graph.now) (nest_in c.args.regions.now) c.loop-u.u c.loop-u.least
    (omega arith) c.loop-u.invariant
