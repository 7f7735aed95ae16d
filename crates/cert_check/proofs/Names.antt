-- Reading a task's entries.
use Rattle.std.proofs.Common.{◌≡◌, ℕ, ◌<◌, [], length, get_or, sym, ap, ◌∙◌}
use Rattle.std.proofs.lemmas.List.{get_or-map, get_or_default}
use Rattle.crpd_base.specs.declared.data.TaskSpec.{TaskSpec}
use Rattle.crpd_base.specs.declared.data.TaskSet.{TaskSet}
use Rattle.crpd_base.specs.declared.data.TaskPart.{TaskPart}
use Rattle.crpd_base.specs.declared.data.Certificate.{Certificate}
use Rattle.evict_sets.specs.ListedPart.{certified_task, no_task_part}
use Rattle.cert_check.specs.JudgeInput.{name_at}

pub name_is : (set : TaskSet) (i : ℕ) (t : TaskSpec) → i < length set.tasks
    → t ≡ get_or set.tasks i t → name_at set i ≡ t.name
name_is set i t lt is =
    get_or-map (λ (k : TaskSpec). k.name) set.tasks i t [] lt
    ∙ ap (λ (k : TaskSpec). k.name) (sym is)

pub part_is : (c : Certificate) (i : ℕ) (t : TaskPart) → i < length c.tasks → t ≡ get_or c.tasks i t
    → certified_task c i ≡ t
part_is c i t lt is = sym (is ∙ get_or_default c.tasks i t no_task_part lt)
