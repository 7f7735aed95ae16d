use Rattle.std.proofs.Common.{rules}
use Rattle.toml.specs.declared.value.Value.TheFolds.{the_lemmas}
use borrow.Author.Tests.{tests}
use Rattle.text_keys.proofs.toml_kinds.whole.Goals as goal

pub returns-in_default-try_from-clause-is : goal.returns-in_default-try_from-clause-is
returns-in_default-try_from-clause-is c = search (tests, rules, the_lemmas)

pub returns-in_default-try_from-2-clause-is : goal.returns-in_default-try_from-2-clause-is
returns-in_default-try_from-2-clause-is c = search (tests, rules, the_lemmas)

pub returns-in_default-try_from-3-clause-is : goal.returns-in_default-try_from-3-clause-is
returns-in_default-try_from-3-clause-is c = search (tests, rules, the_lemmas)
