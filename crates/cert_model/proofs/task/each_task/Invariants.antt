use Rattle.std.proofs.Common.{◌≡◌, drop, map}
use Rattle.crpd_base.proofs.Results.{with_front}
use Rattle.serde_json.specs.View.{members_view}
use Rattle.text_keys.specs.Paths.{each}
use Rattle.cert_model.specs.Reading.{task_at}
use Rattle.cert_model.proofs.task.each_task.Given as goal

abbrev pub invariant-loop-i : goal.invariant-loop-i
invariant-loop-i l =
    with_front l.tasks.items
    (each (task_at l.version) l.i (map (λ t. members_view t.now.entries) (drop l.i l.objects)))
    ≡ each (task_at l.version) 0 (map (λ t. members_view t.now.entries) l.objects)
