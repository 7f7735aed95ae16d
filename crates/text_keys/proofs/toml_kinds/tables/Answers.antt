use Rattle.std.proofs.Common.{rules}
use Rattle.std.proofs.lemmas.Grind.{common_steps}
use Rattle.toml.specs.declared.value.Value.TheFolds.{the_lemmas}
use borrow.Author.Tests.{tests}
use Rattle.text_keys.proofs.toml_kinds.tables.Goals as goal

pub returns-in_default : goal.returns-in_default
returns-in_default c = search (tests, rules, the_lemmas, common_steps)

pub returns-in_default-value : goal.returns-in_default-value
returns-in_default-value c = search (tests, rules, the_lemmas, common_steps)

pub loop-value-preserved : goal.loop-value-preserved
loop-value-preserved c = search (tests, rules, the_lemmas, common_steps)

pub returns : goal.returns
returns c = search (tests, rules, the_lemmas, common_steps)
