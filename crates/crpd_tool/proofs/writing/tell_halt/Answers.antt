use Rattle.std.proofs.Common.{Err, ap, refl}
use Rattle.crpd_input.specs.declared.halt.Halt.{Halt}
use Rattle.crpd_tool.proofs.Finish.{grows_same, told_no_memory, told_refusal}
use Rattle.crpd_tool.proofs.Finish.{told_unread}
use Rattle.crpd_tool.proofs.writing.tell_halt.Goals as goal

pub returns-in-Refused-clause-told : goal.returns-in-Refused-clause-told
returns-in-Refused-clause-told g c =
    told_refusal (Err c.args.halt.now) c.in-Refused.refusal (ap (λ (h : Halt). Err h)
    c.in-Refused.is)
    c.tell_refusal.ensures.finished

pub returns-in-Memory-clause-told : goal.returns-in-Memory-clause-told
returns-in-Memory-clause-told g c = told_no_memory _ refl

pub returns-in-Fault-clause-told : goal.returns-in-Fault-clause-told
returns-in-Fault-clause-told g c =
    told_unread (Err c.args.halt.now) (ap (λ (h : Halt). Err h) c.in-Fault.is) refl

pub returns-in-Memory-clause-grows : goal.returns-in-Memory-clause-grows
returns-in-Memory-clause-grows g c = grows_same _ _

pub returns-in-Fault-clause-grows : goal.returns-in-Fault-clause-grows
returns-in-Fault-clause-grows g c = grows_same _ _
