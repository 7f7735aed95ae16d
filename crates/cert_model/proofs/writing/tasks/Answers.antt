use Rattle.cert_model.specs.Inner.Tokens.{tokens_of}
use Rattle.cert_model.specs.Writing.{task_data}
use Rattle.cert_model.proofs.Adds.{wrote, all_of, list}
use Rattle.cert_model.proofs.writing.tasks.Goals as goal

pub returns : goal.returns
returns c =
    list c.end_array.result task_data c.args.list.now (wrote c.in_ok-begin_array.ensures)
    (all_of (λ t. tokens_of (task_data t)) c.args.list.now c.loop-part.part-index
    c.loop-part-test.false c.loop-part.invariant) c.end_array.ensures
