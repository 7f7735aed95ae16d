use Rattle.std.proofs.Common.{◌≤◌, length, subst, sym, All, List}
use Rattle.crpd_base.specs.declared.data.NodeState.{NodeState}
use Rattle.crpd_base.specs.CertificateRanges.{HasFewPairs}
use Rattle.cert_model.proofs.Ranged.{few_states, few_pairs}
use Rattle.cert_model.proofs.reading.entries.Goals as goal

pub task_entries-found-requires-clause-few : goal.task_entries-found-requires-clause-few
task_entries-found-requires-clause-few c =
    subst (λ (l : List NodeState). length l ≤ 16384) (sym c.as_slice.ensures)
    (few_states c.args.tasks.now c.loop-task.task-index c.task-item.result c.requires
    c.loop-task-test.true c.task-item.is)

pub task_entries-found-requires-clause-each : goal.task_entries-found-requires-clause-each
task_entries-found-requires-clause-each c =
    subst (λ (l : List NodeState). All HasFewPairs l) (sym c.as_slice.ensures)
    (few_pairs c.args.tasks.now c.loop-task.task-index c.task-item.result c.requires
    c.loop-task-test.true c.task-item.is)
