use Rattle.evict_sets.specs.Listing.{counted}
use Rattle.cert_build.proofs.one_task.found_bound.Goals as goal

pub returns : goal.returns
returns c = c.bound_by_hits.ensures.least (counted c.args.hits.now) c.requires.hits
