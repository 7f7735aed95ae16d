use Rattle.std.proofs.Common.{rules}
use Rattle.text_keys.proofs.named.switching_named.Goals as goal
use borrow.Author.Tests.{tests}

pub returns-in-instruction : goal.returns-in-instruction
returns-in-instruction c = search (tests, rules)
