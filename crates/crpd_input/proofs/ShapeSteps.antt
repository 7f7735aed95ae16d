-- The steps on graphs and regions: their stops, and that there is at most one refusal.
use Rattle.std.proofs.Common.{◌≡◌, ◌≢◌, ◌∙◌, ℕ, List, Result, Ok, Err, ap, sym}
use Rattle.task_shapes.specs.Graphs.{GraphsOf}
use Rattle.task_shapes.specs.Inputs.{SetWithCode}
use Rattle.task_shapes.specs.Shapes.{ShapesOf}
use Rattle.task_shapes.proofs.Once.{IsRefusedOnce, exactly_once, then_once}
use Rattle.task_shapes.proofs.OneShape.{graphs_once, shapes_once}
use Rattle.crpd_io.specs.Outside.{Contents}
use Rattle.crpd_input.specs.declared.halt.Halt.{Halt}
use Rattle.crpd_input.specs.declared.halt.Halt.TheVariants.{Refused, Memory, Fault}
use Rattle.crpd_input.specs.Reading.{input_in}
use Rattle.crpd_input.specs.Shapes.{GraphsFrom, ShapedFrom, ShapedIn, shape_halt}
use Rattle.crpd_input.specs.Steps.{AsStep, Exactly, IsRefusal, StopsBy}

module _ {A E : Type 0} (halt_of : E → Halt) (P : Result A E → Type 0) where
  -- the stop of a defined error, or out of memory, ends a step
  pub stops_as : (memory e : E) (halt : Halt) → IsRefusal (halt_of e) halt → halt_of memory ≡ Memory
      → (e ≢ memory → P (Err e)) → StopsBy (AsStep halt_of P) halt
  stops_as memory e (Refused r) is want here = (
    e,
    here (λ same. let no : Refused r ≡ Memory = is ∙ ap halt_of same ∙ want in absurd cc),
    is,
  )
  stops_as memory e Memory is want here = tt
  stops_as memory e Fault is want here = tt

  -- a step has at most one refusal if it has at most one error
  pub as_once : IsRefusedOnce P → IsRefusedOnce (AsStep halt_of P)
  as_once once = record {
    exclusive = λ x r a b. once.exclusive x b.0 a b.1;
    one = λ r s a b. a.2 ∙ ap halt_of (once.one a.0 b.0 a.1 b.1) ∙ sym b.2;
  }

pub graphs_from_once : (input : SetWithCode) → IsRefusedOnce (GraphsFrom input)
graphs_from_once input = as_once shape_halt (GraphsOf input) (graphs_once input)

pub shaped_from_once : (input : SetWithCode) → IsRefusedOnce (ShapedFrom input)
shaped_from_once input = as_once shape_halt (ShapesOf input) (shapes_once input)

same_input : (x y : SetWithCode) → ◌≡◌ {A = Result SetWithCode Halt} (Ok y) (Ok x) → y ≡ x
same_input x y e = cc

pub shaped_in_once : (contents : Contents) (name : List ℕ) → IsRefusedOnce (ShapedIn contents name)
shaped_in_once contents name =
    then_once (Exactly (input_in contents name)) ShapedFrom (exactly_once (input_in contents name))
    (λ x y a b. same_input y x (sym a ∙ b)) shaped_from_once
