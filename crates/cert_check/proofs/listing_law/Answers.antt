use Rattle.cert_check.proofs.Clauses.{yes_meets_listing, yes_meets_sets}
use Rattle.cert_check.proofs.listing_law.Goals as goal

pub returns-clause-listing : goal.returns-clause-listing
returns-clause-listing c = yes_meets_listing

pub returns-clause-sets : goal.returns-clause-sets
returns-clause-sets c = yes_meets_sets
