use Rattle.sound_laws.proofs.Headline.Undisturbed.{part_is_bounded}
use Rattle.sound_laws.proofs.part_is_bounded.Goals as goal

pub returns : goal.returns
returns c = part_is_bounded
