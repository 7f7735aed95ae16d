use Rattle.sound_laws.proofs.Delays.WindowDelays.{reloads_within_delays}
use Rattle.sound_laws.proofs.reloads_within_delays.Goals as goal

pub returns : goal.returns
returns c = reloads_within_delays
