use Rattle.evict_sets.specs.Listing.{counted}
use Rattle.sensitivity.proofs.Parts.{least_bound, large_bound}
use Rattle.sensitivity.proofs.analysis.task_bound.Goals as goal

pub returns-in-Ok : goal.returns-in-Ok
returns-in-Ok c =
    least_bound c.args.platform.now c.args.graph.now c.args.nest.now (counted c.args.hits.now)
    c.in-Ok.found.cycles c.in-Ok.found.nodes c.in-Ok.found.loops c.requires.hits.sure
    (c.in-Ok.ensures.least (counted c.args.hits.now) c.requires.hits.sure)

pub returns-in-Err-TooLarge : goal.returns-in-Err-TooLarge
returns-in-Err-TooLarge c =
    large_bound c.args.platform.now c.args.graph.now c.args.nest.now (counted c.args.hits.now)
    c.requires.nest c.requires.hits.sure
    (rw c.in-Err-TooLarge.field-0-is at
    (c.in-Err-TooLarge.ensures.least (counted c.args.hits.now) c.requires.hits.sure)).1
