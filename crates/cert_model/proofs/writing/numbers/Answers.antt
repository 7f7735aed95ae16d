use Rattle.cert_model.specs.Inner.Tokens.{tokens_of}
use Rattle.cert_model.specs.Writing.{whole_number}
use Rattle.cert_model.proofs.Adds.{wrote, all_of, list}
use Rattle.cert_model.proofs.writing.numbers.Goals as goal

pub returns : goal.returns
returns c =
    list c.end_array.result whole_number c.args.list.now (wrote c.in_ok-begin_array.ensures)
    (all_of (λ n. tokens_of (whole_number n)) c.args.list.now c.loop-number.number-index
    c.loop-number-test.false c.loop-number.invariant) c.end_array.ensures
