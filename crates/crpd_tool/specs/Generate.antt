-- The steps of `generate N`.
use Rattle.std.specs.Prelude.{◌≡◌, ◌≢◌, ◌⊎◌, ◌↔◌, IsTrue, ℕ, Bool, ◌≤◌, List, [], ◌∷◌, ◌++◌, codes}
use Rattle.std.specs.Prelude.{length, map, Some, None, Result, Ok, Err, if◌then◌else◌}
use Rattle.std.specs.List.{sum_by, zip}
use Rattle.std.specs.Str.{bytes_eq}
use Rattle.crpd_base.specs.Limits.{most_entries}
use Rattle.crpd_base.specs.declared.data.Certificate.{Certificate}
use Rattle.crpd_base.specs.declared.data.Script.{Script}
use Rattle.crpd_base.specs.declared.data.TaskSet.{TaskSet}
use Rattle.crpd_base.specs.declared.data.TaskSpec.{TaskSpec}
use Rattle.flat_graph.specs.CodeGraph.{CodeGraph}
use Rattle.cert_build.specs.Best.{IsBest}
use Rattle.cert_build.specs.Certify.{IsBuildError}
use Rattle.cert_build.specs.declared.error.BuildError.{BuildError}
use Rattle.cert_build.specs.declared.error.BuildError.TheVariants as build
use Rattle.cert_check.specs.FirstFailing.{answer_of}
use Rattle.cert_check.specs.Verdict.{IsJudged}
use Rattle.cert_check.specs.declared.outcome.Verdict.{Verdict}
use Rattle.cert_model.specs.Reading.{entries}
use Rattle.preempt_machine.specs.Safe.{IsKept}
use Rattle.crpd_io.specs.Outside.{Contents}
use Rattle.crpd_report.specs.Generate.{generate_text, made_line}
use Rattle.gen_tasks.specs.GeneratedInput.{made}
use Rattle.gen_tasks.specs.declared.Generated.{Generated}
use Rattle.task_shapes.specs.Inputs.{SetWithCode}
use Rattle.crpd_input.specs.declared.halt.Halt.{Halt}
use Rattle.task_shapes.specs.Shapes.{SetWithShapes}
use Rattle.crpd_input.specs.Reading.{code_in}
use Rattle.crpd_input.specs.Shapes.{ShapedFrom}
use Rattle.crpd_tool.specs.Shaped.{graphs_of}
use Rattle.crpd_input.specs.Steps.{Exactly, Then, and_then}
use Rattle.crpd_tool.specs.declared.answer.Answer.{Answer}
use Rattle.crpd_tool.specs.Analyze.{without_certificate}
use Rattle.crpd_tool.specs.Check.{verdict_outcome}
use Rattle.crpd_tool.specs.Simulate.{completions_of, run_of}

-- ---- the generated input

-- the bytes of the first file with a name
abbrev pub contents_of_files : List (List ℕ × List ℕ) → Contents
contents_of_files [] name = None
contents_of_files (file ∷ files) name =
    if bytes_eq name file.0 then Some file.1 else contents_of_files files name

-- the files of a set's tasks, under the names that the tasks use for them
abbrev pub named_files : TaskSet → List (List ℕ) → List (List ℕ × List ℕ)
named_files set files = zip (map (λ (t : TaskSpec). t.file) set.tasks) files

-- the name used for the set's file in refusals
abbrev pub made_name : List ℕ
made_name = codes "generate"

-- a set with the code that these files mean, as for a set that was read
abbrev pub input_of : TaskSet → List (List ℕ) → Result SetWithCode Halt
input_of set files =
    and_then (code_in (contents_of_files (named_files set files)) made_name set)
    (λ code. Ok (record { set = set; code = code }))

-- the generated set with its code
abbrev pub made_input : ℕ → Result SetWithCode Halt
made_input n = input_of (made n).set (made n).files

-- ---- its analysis, its verdict and its run

-- the number of nodes of all graphs together
abbrev pub node_count : List CodeGraph → ℕ
node_count graphs = sum_by (λ (g : CodeGraph). length g.nodes) graphs

-- the analysis' certificate, with at most 4,000,000 state entries; the checker's verdict on it; and
-- whether the state after the script's cycles is kept
pub record IsRunJudged (script : Script) (shaped : SetWithShapes) (c : Certificate)
    (verdict : Verdict) (kept : Bool) : Type 0 where
  pub best : IsBest shaped.input.set (graphs_of shaped) c
  pub few : entries c.tasks ≤ most_entries
  pub judged : IsJudged shaped.input.set (graphs_of shaped) c (answer_of verdict)
  pub kept_so : IsTrue kept ↔ IsKept (run_of shaped.input script)

-- the answer with a certificate
abbrev pub made_answer : ℕ → Script → SetWithShapes → Certificate → Verdict → Bool → Answer
made_answer n script shaped c verdict kept = record {
  text =
      generate_text n (node_count shaped.graphs) shaped.input.set c verdict script
      (completions_of (run_of shaped.input script)) kept;
  outcome = verdict_outcome verdict;
}

-- an answer after a line; a stop has no line before it
abbrev pub answer_behind_line : List ℕ → Result Answer Halt → Result Answer Halt
answer_behind_line line (Ok answer) =
    Ok (record { text = line ++ answer.text; outcome = answer.outcome })
answer_behind_line line (Err halt) = Err halt

-- if there is no certificate, the end of the analysis, with the first line before the line of a
-- task without a window
abbrev pub without_made : ℕ → SetWithShapes → BuildError → Result Answer Halt
without_made n shaped e =
    answer_behind_line (made_line n (node_count shaped.graphs))
    (without_certificate made_name shaped.input.set e)

-- the analysis of all tasks, and with its certificate the verdict and the script's run
abbrev pub GeneratedOf : ℕ → Script → SetWithShapes → Result Answer Halt → Type 0
GeneratedOf n script shaped r =
    ((c : Certificate) × (verdict : Verdict) × (kept : Bool)
    × IsRunJudged script shaped c verdict kept
    × (r ≡ Ok (made_answer n script shaped c verdict kept)))
    ⊎ ((e : BuildError) × (e ≢ build.Memory)
    × IsBuildError shaped.input.set (graphs_of shaped) e
    × (r ≡ without_made n shaped e))

-- over an input generated from a number: the set with its code, the graphs of all tasks and the
-- regions of their loops, and then the analysis, the verdict and the run
abbrev pub EndsFrom : ℕ → Generated → Result Answer Halt → Type 0
EndsFrom n g =
    Then (Then (Exactly (input_of g.set g.files)) ShapedFrom) (GeneratedOf n g.script)

-- the whole command
abbrev pub GenerateEnds : ℕ → Result Answer Halt → Type 0
GenerateEnds n = EndsFrom n (made n)
