use Rattle.std.proofs.Common.{refl}
use Rattle.crpd_io.proofs.disk.DiskFiles.new.Goals as goal

pub returns-clause-faults : goal.returns-clause-faults
returns-clause-faults g c = refl
