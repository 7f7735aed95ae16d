use Rattle.rv_core.proofs.Sources.{same_next, same_written, same_memory}
use Rattle.rv_core.proofs.effects.sources_tell_effect.Goals as goal

pub returns : goal.returns
returns c = λ ins pc r s m e f. (
  same_next pc r s m ins e f,
  same_written pc r s m ins e f,
  same_memory pc r s m ins e f,
)
