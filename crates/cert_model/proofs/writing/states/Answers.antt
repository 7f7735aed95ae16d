use Rattle.cert_model.specs.Inner.Tokens.{tokens_of}
use Rattle.cert_model.specs.Writing.{state_data}
use Rattle.cert_model.proofs.Adds.{wrote, all_of, list}
use Rattle.cert_model.proofs.writing.states.Goals as goal

pub returns : goal.returns
returns c =
    list c.end_array.result state_data c.args.list.now (wrote c.in_ok-begin_array.ensures)
    (all_of (λ s. tokens_of (state_data s)) c.args.list.now c.loop-node.node-index
    c.loop-node-test.false c.loop-node.invariant) c.end_array.ensures
