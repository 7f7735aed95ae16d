use Rattle.sound_laws.proofs.Delays.FromHigher.{reload_comes_from_higher}
use Rattle.sound_laws.proofs.reload_comes_from_higher.Goals as goal

pub returns : goal.returns
returns c = reload_comes_from_higher
