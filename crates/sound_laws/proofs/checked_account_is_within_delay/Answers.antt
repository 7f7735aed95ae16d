use Rattle.sound_laws.proofs.Headline.Within.{checked_account_is_within_delay}
use Rattle.sound_laws.proofs.checked_account_is_within_delay.Goals as goal

pub returns : goal.returns
returns c = checked_account_is_within_delay
