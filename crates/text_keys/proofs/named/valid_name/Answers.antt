use Rattle.std.proofs.Common.{rules}
use Rattle.text_keys.proofs.named.valid_name.Goals as goal
use borrow.Author.Tests.{tests}

pub returns-in_ok-from_str-in-Some : goal.returns-in_ok-from_str-in-Some
returns-in_ok-from_str-in-Some c = search (tests, rules)
