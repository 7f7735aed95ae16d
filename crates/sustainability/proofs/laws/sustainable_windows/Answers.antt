use Rattle.sustainability.proofs.Windows.{windows_are_sustainable, windows_are_no_longer}
use Rattle.sustainability.proofs.laws.sustainable_windows.Goals as goal

pub returns : goal.returns
returns c = record {
  sustainable = windows_are_sustainable;
  no_longer = windows_are_no_longer;
}
