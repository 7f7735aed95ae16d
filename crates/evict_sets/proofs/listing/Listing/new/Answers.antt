use Rattle.evict_sets.proofs.listing.Listing.new.Goals as goal

pub returns-clause-index : goal.returns-clause-index
returns-clause-index c = rw (c.as_slice.ensures, c.requires) at c.index.ensures
