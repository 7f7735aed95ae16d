use Rattle.std.proofs.Common.{ℕ, List, Result, refl, subst}
use Rattle.code_map.specs.Words.{Code}
use Rattle.crpd_base.specs.declared.data.TaskSet.{TaskSet}
use Rattle.task_shapes.specs.Inputs.{SetWithCode}
use Rattle.crpd_input.specs.Reading.{code_in}
use Rattle.crpd_input.specs.Shapes.{ShapedFrom}
use Rattle.crpd_input.specs.Steps.{Exactly, MeansBy, Stops, StopsBy, Then}
use Rattle.crpd_input.specs.declared.halt.Halt.{Halt}
use Rattle.crpd_input.specs.declared.halt.Halt.TheVariants.{Refused, Memory, Fault}
use Rattle.crpd_input.proofs.Chain.{goes_on, stopped}
use Rattle.crpd_tool.specs.Generate.{contents_of_files, input_of, made_name, named_files}
use Rattle.crpd_input.proofs.Chain.{stops_so}
use Rattle.crpd_tool.proofs.generate.shape_files.Goals as goal

module _ (set : TaskSet) (files : List (List ℕ)) where
  abbrev code_meant : Result Code Halt
  code_meant = code_in (contents_of_files (named_files set files)) made_name set

  code_stopped : (halt : Halt) → Stops code_meant halt → StopsBy (Exactly (input_of set files)) halt
  code_stopped (Refused r) is = rw is refl
  code_stopped Memory is = tt
  code_stopped Fault is = tt

pub returns-in_err-code-clause-exact : goal.returns-in_err-code-clause-exact
returns-in_err-code-clause-exact c =
    let halt = c.in_err-code.field-0.0 in
    stops_so (Then (Exactly (input_of c.args.set c.args.files.now)) ShapedFrom)
    c.from_residual.result halt c.from_residual.ensures.1
    (stopped (Exactly (input_of c.args.set c.args.files.now)) ShapedFrom halt
    (code_stopped c.args.set c.args.files.now halt c.in_err-code.ensures.exact))

pub returns-clause-exact : goal.returns-clause-exact
returns-clause-exact c =
    goes_on (Exactly (input_of c.args.set c.args.files.now)) ShapedFrom
    (record { set = c.args.set; code = c.in_ok-code.code }) c.shape_input.result
    (rw c.in_ok-code.ensures.exact refl)
    (subst (λ (i : SetWithCode). MeansBy (ShapedFrom i) c.shape_input.result) c.in_ok-input.ensures
    c.shape_input.ensures.exact)
