use Rattle.code_map.proofs.KeptWords.{words_are}
use Rattle.code_map.proofs.files.Files.words_law.Goals as goal

pub returns : goal.returns
returns c = words_are c.self.inside c.args.self.now c.self.invariant c.self.view_is
