-- A set that was read with its code and its shapes.
use Rattle.std.proofs.Common.{◌≡◌, ℕ, ◌<◌, length, Result, Ok, subst, inl, inr}
use Rattle.crpd_base.proofs.Results.{ok_not_err}
use Rattle.code_map.specs.Words.{word_at}
use Rattle.cert_check.specs.JudgeInput.{IsGraphOf}
use Rattle.preempt_machine.specs.Machine.{plan_of}
use Rattle.preempt_machine.specs.Safe.{system_of}
use Rattle.task_shapes.specs.Inputs.{SetWithCode}
use Rattle.task_shapes.specs.Shapes.{SetWithShapes}
use Rattle.task_shapes.proofs.OneShape.{shapes_parts}
use Rattle.crpd_input.specs.declared.halt.Halt.{Halt}
use Rattle.crpd_input.specs.Shapes.{ShapedFrom}
use Rattle.crpd_input.specs.Steps.{Exactly, Then}
use Rattle.crpd_input.proofs.Built.{shapes_built}
use Rattle.crpd_tool.specs.Shaped.{graphs_of}

-- the set with its code is given, and its shapes are those of its code
pub record IsReadFrom (given : Result SetWithCode Halt) (shaped : SetWithShapes) : Type 0 where
  pub input_is : given ≡ Ok shaped.input
  pub shapes_are : ShapedFrom shaped.input (Ok shaped)

pub read_from : (given : Result SetWithCode Halt) (shaped : SetWithShapes)
    → Then (Exactly given) ShapedFrom (Ok shaped) → IsReadFrom given shaped
read_from given shaped (inl (input, is, shapes)) =
    subst (λ i. (given ≡ Ok i) × ShapedFrom i (Ok shaped) → IsReadFrom given shaped)
    (shapes_parts input shaped shapes).of
    (λ r. record { input_is = r.0; shapes_are = r.1 }) (is, shapes)
read_from given shaped (inr (halt, stops, is)) = absurd (ok_not_err shaped halt is)

-- its graphs with their regions are those of its code
pub built_of : (shaped : SetWithShapes) → ShapedFrom shaped.input (Ok shaped) → (k : ℕ)
    → k < length shaped.input.set.tasks
    → IsGraphOf (word_at shaped.input.code.images)
    (plan_of (system_of shaped.input.set shaped.input.code) k) (graphs_of shaped k)
built_of shaped are =
    let parts = shapes_parts shaped.input shaped are in
    shapes_built shaped.input shaped.graphs shaped.nests parts.graphs parts.regions
