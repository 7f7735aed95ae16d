use Rattle.std.proofs.Common.{◌≡◌, ◌∙◌, ◌<◌, ◌^◌, ℕ, List, Result, ap, length, subst, sym}
use Rattle.gen_tasks.specs.GeneratedInput.{made}
use Rattle.gen_tasks.specs.declared.Generated.{Generated}
use Rattle.crpd_base.specs.declared.data.TaskSet.{TaskSet}
use Rattle.preempt_machine.specs.Safe.{NamesTasks}
use Rattle.crpd_input.specs.Shapes.{ShapedFrom}
use Rattle.crpd_input.specs.Steps.{Exactly, MeansBy, Then}
use Rattle.crpd_input.proofs.Chain.{goes_on, stopped}
use Rattle.crpd_input.specs.declared.halt.Halt.{Halt}
use Rattle.crpd_tool.specs.declared.answer.Answer.{Answer}
use Rattle.crpd_tool.specs.Generate.{EndsFrom, GenerateEnds, GeneratedOf, input_of}
use Rattle.gen_tasks.proofs.MadeCounts.{made_files_count, made_jobs_few}
use Rattle.crpd_input.proofs.Chain.{stops_so}
use Rattle.crpd_tool.proofs.generate.generate.Goals as goal

-- what an input generated from a number means
from_made : (n : ℕ) (g : Generated) (files : List (List ℕ)) (r : Result Answer Halt) → g ≡ made n
    → files ≡ g.files
    → MeansBy (EndsFrom n (record { set = g.set; files = files; script = g.script })) r
    → MeansBy (GenerateEnds n) r
from_made n g files r is held here =
    subst (λ (m : Generated). MeansBy (EndsFrom n m) r) is
    (subst (λ (fs : List (List ℕ)).
    MeansBy (EndsFrom n (record { set = g.set; files = fs; script = g.script })) r) held here)

pub shape_files-requires-clause-count : goal.shape_files-requires-clause-count
shape_files-requires-clause-count c =
    ap length c.as_slice.ensures ∙ ap (λ (g : Generated). length g.files) c.in_ok-made.ensures.is
    ∙ made_files_count c.args.seed.number
    ∙ sym (ap (λ (g : Generated). length g.set.tasks) c.in_ok-made.ensures.is)

pub analysis_answer-requires-clause-jobs : goal.analysis_answer-requires-clause-jobs
analysis_answer-requires-clause-jobs c =
    subst (λ (g : Generated). length g.script.jobs < 2 ^ 32) (sym c.in_ok-made.ensures.is)
    (made_jobs_few c.args.seed.number)

pub analysis_answer-requires-clause-tasks : goal.analysis_answer-requires-clause-tasks
analysis_answer-requires-clause-tasks c =
    subst (λ (set : TaskSet). NamesTasks set c.in_ok-made.made.script.jobs)
    (sym c.in_ok-shaped.ensures.same) c.in_ok-made.ensures.in_set

pub returns-in_err-shaped-clause-exact : goal.returns-in_err-shaped-clause-exact
returns-in_err-shaped-clause-exact c =
    let made = c.in_ok-made.made in
    let files = c.as_slice.result.now in
    from_made c.args.seed.number made files _ c.in_ok-made.ensures.is c.as_slice.ensures
    (stops_so
    (EndsFrom c.args.seed.number
    (record { set = made.set; files = files; script = made.script }))
    c.from_residual-in_err-shaped.result c.in_err-shaped.field-0.0
    c.from_residual-in_err-shaped.ensures.1
    (stopped (Then (Exactly (input_of made.set files)) ShapedFrom)
    (GeneratedOf c.args.seed.number made.script)
    c.in_err-shaped.field-0.0 c.in_err-shaped.ensures.exact))

pub returns-clause-exact : goal.returns-clause-exact
returns-clause-exact c =
    let made = c.in_ok-made.made in
    let files = c.as_slice.result.now in
    from_made c.args.seed.number made files c.analysis_answer.result c.in_ok-made.ensures.is
    c.as_slice.ensures
    (goes_on (Then (Exactly (input_of made.set files)) ShapedFrom)
    (GeneratedOf c.args.seed.number made.script)
    c.in_ok-shaped.shaped c.analysis_answer.result c.in_ok-shaped.ensures.exact
    c.analysis_answer.ensures.exact)
