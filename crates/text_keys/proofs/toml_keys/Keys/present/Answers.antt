use Rattle.std.proofs.Common.{rules}
use Rattle.text_keys.proofs.toml_keys.Keys.present.Goals as goal

pub returns-in_ok-key_path-in-None : goal.returns-in_ok-key_path-in-None
returns-in_ok-key_path-in-None c = search rules
