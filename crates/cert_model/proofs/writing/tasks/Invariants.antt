use Rattle.std.proofs.Common.{take}
use Rattle.cert_model.specs.Inner.Tokens.{Adds, tokens_by}
use Rattle.cert_model.specs.Writing.{task_data}
use Rattle.cert_model.proofs.writing.tasks.Given as goal

abbrev pub invariant-loop-part : goal.invariant-loop-part
invariant-loop-part l = Adds l.initial.out l.out (tokens_by task_data (take l.part-index l.list))
