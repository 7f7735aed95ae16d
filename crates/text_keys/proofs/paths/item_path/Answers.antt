use Rattle.std.proofs.Common.{rules, append_assoc}
use Rattle.text_keys.proofs.paths.item_path.Goals as goal

pub returns : goal.returns
returns c = search (rules, append_assoc)
