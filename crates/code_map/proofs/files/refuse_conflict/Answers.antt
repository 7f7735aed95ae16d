use Rattle.std.proofs.Common.{refl}
use Rattle.code_map.proofs.files.refuse_conflict.Goals as goal

pub returns-in-Some : goal.returns-in-Some
returns-in-Some c = rw c.in-Some.is refl
