use Rattle.loop_regions.proofs.SomeRegions.{regions_exist}
use Rattle.loop_regions.proofs.regions_exist.Goals as goal

pub returns : goal.returns
returns c = regions_exist
