use Rattle.std.proofs.Common.{refl}
use Rattle.persistent_blocks.proofs.part.part_of.Goals as goal

pub returns-clause-bound : goal.returns-clause-bound
returns-clause-bound c = refl

pub returns-clause-evicting : goal.returns-clause-evicting
returns-clause-evicting c = record {
  size = c.words_law.ensures;
  numbers = c.evicting-evicting.ensures;
}

pub returns-clause-useful : goal.returns-clause-useful
returns-clause-useful c = record {
  size = c.words_law-2.ensures;
  numbers = c.sets_of_hits-useful.ensures;
}
