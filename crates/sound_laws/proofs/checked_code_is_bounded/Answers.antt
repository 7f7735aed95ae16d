use Rattle.sound_laws.proofs.Headline.Within.{checked_code_is_bounded}
use Rattle.sound_laws.proofs.checked_code_is_bounded.Goals as goal

pub returns : goal.returns
returns c = checked_code_is_bounded
