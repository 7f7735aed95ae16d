use Rattle.worked_examples.proofs.TwoWords.{two_words}
use Rattle.worked_examples.proofs.two_words.Goals as goal

pub returns : goal.returns
returns c = two_words c.yes_is_safe.ensures
