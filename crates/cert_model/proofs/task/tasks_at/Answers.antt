use Rattle.serde_json.specs.View.{members_view}
use Rattle.cert_model.proofs.Ranged.{found_tasks}
use Rattle.cert_model.proofs.task.tasks_at.Goals as goal

pub returns-clause-ranges : goal.returns-clause-ranges
returns-clause-ranges c =
    found_tasks (λ v. v.items) c.args.version (members_view c.args.object.now.entries)
    c.listed_tasks.result c.listed_tasks.ensures
