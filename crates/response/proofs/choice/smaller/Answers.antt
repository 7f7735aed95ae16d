use Rattle.std.proofs.Common.{refl}
use Rattle.std.proofs.lemmas.Bool.{le-leb, lt-leb}
use Rattle.response.proofs.choice.smaller.Goals as goal

pub returns-then-ucb_first : goal.returns-then-ucb_first
returns-then-ucb_first c =
    let b = le-leb c.in-Some-Some.first c.in-Some-Some.second c.if-ucb_first.true in
    rw (c.in-Some-Some.is-0, c.in-Some-Some.is-1, b) refl

pub returns-else-ucb_first : goal.returns-else-ucb_first
returns-else-ucb_first c =
    let b = lt-leb c.in-Some-Some.first c.in-Some-Some.second c.if-ucb_first.false in
    rw (c.in-Some-Some.is-0, c.in-Some-Some.is-1, b) refl
