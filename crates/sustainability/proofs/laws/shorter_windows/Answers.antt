use Rattle.sustainability.proofs.Examples.{shorter_windows}
use Rattle.sustainability.proofs.RefinedExamples.{shorter_refined}
use Rattle.sustainability.proofs.laws.shorter_windows.Goals as goal

pub returns : goal.returns
returns c = record { windows = shorter_windows; refined = shorter_refined }
