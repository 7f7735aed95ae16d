-- What was read once is read again: a command continues with it, in other regions of its loops.
use Rattle.std.proofs.Common.{◌≡◌, ◌∙◌, ℕ, List, Result, Ok, inl, inr, subst, sym}
use Rattle.crpd_base.proofs.Results.{ok_is, ok_not_err}
use Rattle.crpd_base.specs.declared.data.Certificate.{Certificate}
use Rattle.crpd_base.specs.declared.data.TaskSet.{TaskSet}
use Rattle.cert_build.proofs.Alike.{built_too}
use Rattle.cert_build.proofs.OneBuild.{IsBuilt}
use Rattle.cert_build.specs.Best.{Demands}
use Rattle.cert_build.specs.declared.error.BuildError.{BuildError}
use Rattle.task_shapes.specs.Inputs.{SetWithCode}
use Rattle.task_shapes.specs.Shapes.{SetWithShapes}
use Rattle.crpd_io.specs.Outside.{Contents}
use Rattle.crpd_input.specs.Reading.{input_in}
use Rattle.crpd_input.specs.Shapes.{ShapedIn}
use Rattle.crpd_input.specs.Steps.{Exactly, Then}
use Rattle.crpd_input.specs.declared.halt.Halt.{Halt}
use Rattle.crpd_input.proofs.ShapeSteps.{shaped_in_once}
use Rattle.crpd_tool.specs.Shaped.{graphs_of}
use Rattle.crpd_tool.specs.declared.answer.Answer.{Answer}
use Rattle.crpd_tool.proofs.ReadSet.{IsReadFrom, read_from}
use Rattle.crpd_tool.proofs.SameShapes.{same_shapes}

-- the value of a step
pub value_again : {A : Type 0} (given : Result A Halt) (next : A → Result Answer Halt → Type 0)
    (x : A) (ending : Result Answer Halt) → given ≡ Ok x → Then (Exactly given) next ending
    → next x ending
value_again given next x ending is (inl went) =
    subst (λ y. next y ending) (ok_is went.0 x (sym went.1 ∙ is)) went.2
value_again given next x ending is (inr stopped) =
    absurd (ok_not_err x stopped.0 (sym is ∙ stopped.1))

-- the set of a file, with its code and its shapes
pub shapes_again : (contents : Contents) (name : List ℕ)
    (next : SetWithShapes → Result Answer Halt → Type 0) (x : SetWithShapes)
    (ending : Result Answer Halt) → IsReadFrom (input_in contents name) x
    → Then (ShapedIn contents name) next ending
    → (y : SetWithShapes) × IsReadFrom (input_in contents name) y × next y ending
shapes_again contents name next x ending read (inl went) =
    (went.0, read_from (input_in contents name) went.0 went.1, went.2)
shapes_again contents name next x ending read (inr stopped) =
    absurd ((shaped_in_once contents name).exclusive x stopped.0
    (inl (x.input, read.input_is, read.shapes_are)) stopped.1)

-- the certificate or the error of an analysis
pub built_again : (demands : TaskSet → Demands) (given : Result SetWithCode Halt)
    (x y : SetWithShapes) → IsReadFrom given x → IsReadFrom given y
    → (r : Result Certificate BuildError)
    → IsBuilt x.input.set (demands x.input.set) (graphs_of x) r
    → IsBuilt y.input.set (demands y.input.set) (graphs_of y) r
built_again demands given x y first second r B =
    let same = same_shapes given x y first second in
    let set = x.input.set in
    subst (λ (z : SetWithShapes). IsBuilt z.input.set (demands z.input.set) (graphs_of z) r)
    (sym same.is) (built_too set x.graphs x.nests y.nests same.alike (demands set) r B)
