use Rattle.persistent_blocks.proofs.NoRegions.{no_regions}
use Rattle.persistent_blocks.proofs.laws.no_regions.Goals as goal

pub returns : goal.returns
returns c = no_regions
