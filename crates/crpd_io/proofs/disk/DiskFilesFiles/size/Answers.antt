use Rattle.std.proofs.Common.{refl}
use Rattle.crpd_io.proofs.disk.DiskFilesFiles.size.Goals as goal

pub returns-clause-says : goal.returns-clause-says
returns-clause-says g c = refl
