use Rattle.cert_model.proofs.Adds.{wrote, all_of, pair_tokens, list_of_pairs}
use Rattle.cert_model.proofs.writing.pairs.Goals as goal

pub returns : goal.returns
returns c =
    list_of_pairs c.end_array.result c.args.sure.now (wrote c.in_ok-begin_array.ensures)
    (all_of pair_tokens c.args.sure.now c.loop-set.set-index c.loop-set-test.false
    c.loop-set.invariant) c.end_array.ensures
