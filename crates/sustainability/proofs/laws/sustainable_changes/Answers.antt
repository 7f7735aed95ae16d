use Rattle.sustainability.proofs.Changes.{no_more_than_itself, changes_add_up}
use Rattle.sustainability.proofs.Changes.{refined_changes_add_up, any_task_may_leave}
use Rattle.sustainability.proofs.laws.sustainable_changes.Goals as goal

pub returns : goal.returns
returns c = record {
  itself = no_more_than_itself;
  both = changes_add_up;
  refined = refined_changes_add_up;
  leaves = any_task_may_leave;
}
