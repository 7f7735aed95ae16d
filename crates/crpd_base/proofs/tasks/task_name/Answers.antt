use Rattle.std.proofs.Common.{◌≡◌, ℕ, List, [], Option, refl, sym, ap, ◌∙◌, slice_get}
use Rattle.std.specs.Option.{option_map_or}
use Rattle.std.proofs.lemmas.Bool.{ltb-true, ltb-false}
use Rattle.std.proofs.lemmas.Option.{slice_get_past, slice_get_read}
use Rattle.crpd_base.specs.declared.data.TaskSpec.{TaskSpec}
use Rattle.crpd_base.proofs.tasks.task_name.Goals as goal

-- the name of the task at a place
name_at : (tasks : List TaskSpec) (k place : ℕ) (spec : Option TaskSpec) → slice_get tasks k ≡ spec
    → k ≡ place → option_map_or (λ (t : TaskSpec). t.name) spec []
    ≡ option_map_or (λ (t : TaskSpec). t.name) (slice_get tasks place) []
name_at tasks k place spec at same =
    ap (λ s. option_map_or (λ (t : TaskSpec). t.name) s []) (sym at ∙ ap (slice_get tasks) same)

pub returns-in-Some : goal.returns-in-Some
returns-in-Some c =
    let told = c.in-Some.ensures in
    c.as_str.ensures
    ∙ name_at _ _ _ _
    (slice_get_read _ _ _ c.in-Some.spec.now refl (ltb-true _ _ (sym told.0)) told.1)
    c.from.ensures

pub returns-in-None : goal.returns-in-None
returns-in-None c =
    name_at _ _ _ _ (slice_get_past _ _ (ltb-false _ _ (sym c.in-None.ensures.0))) c.from.ensures
