use Rattle.sound_laws.proofs.Reloads.PartLaws.{prepaid_fetches}
use Rattle.sound_laws.proofs.prepaid_fetches.Goals as goal

pub returns : goal.returns
returns c = prepaid_fetches
