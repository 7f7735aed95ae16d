use Rattle.sound_laws.proofs.Headline.Within.{checked_account_is_within_delays}
use Rattle.sound_laws.proofs.checked_account_is_within_delays.Goals as goal

pub returns : goal.returns
returns c = checked_account_is_within_delays
