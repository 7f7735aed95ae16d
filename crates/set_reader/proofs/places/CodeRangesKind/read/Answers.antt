use Rattle.std.proofs.Common.{arith, rules}
use Rattle.std.proofs.lemmas.Grind.{common_steps}
use Rattle.toml.specs.declared.value.Value.TheFolds.{the_lemmas}
use borrow.Author.Tests.{tests}
use Rattle.set_reader.proofs.places.CodeRangesKind.read.Goals as goal

pub returns-in_default : goal.returns-in_default
returns-in_default c = search (rules, the_lemmas)

pub returns-in_default-2 : goal.returns-in_default-2
returns-in_default-2 c = search (tests, rules, the_lemmas, common_steps)

pub loop-value-preserved : goal.loop-value-preserved
loop-value-preserved c = grind (arith, common_steps)

pub returns : goal.returns
returns c = search (tests, rules, the_lemmas, common_steps)
