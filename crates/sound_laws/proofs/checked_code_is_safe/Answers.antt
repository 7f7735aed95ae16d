use Rattle.sound_laws.proofs.Headline.InRange.{checked_code_is_safe}
use Rattle.sound_laws.proofs.checked_code_is_safe.Goals as goal

pub returns : goal.returns
returns c = checked_code_is_safe
