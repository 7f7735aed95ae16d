-- A generated input's text with the status Done results from a yes; no job of a kept run is late.
use Rattle.std.proofs.Common.{◌≡◌, ℕ, ◌++◌, Bool, true, List, length, Result, Ok, refl, ap, sym}
use Rattle.std.proofs.Common.{subst, ◌∙◌, inl, inr}
use Rattle.std.specs.Prelude.{IsTrue, codes}
use Rattle.crpd_base.specs.declared.data.Certificate.{Certificate}
use Rattle.crpd_base.specs.declared.data.Script.{Script}
use Rattle.crpd_base.specs.declared.data.TaskSet.{TaskSet}
use Rattle.crpd_base.specs.Arrivals.{IsLegal}
use Rattle.cert_build.specs.declared.error.BuildError.{BuildError}
use Rattle.cert_build.specs.declared.error.BuildError.TheVariants.{Memory, TooLarge, TooManyEntries}
use Rattle.cert_build.specs.declared.error.BuildError.TheVariants.{Unschedulable}
use Rattle.cert_check.specs.JudgeInput.{responses}
use Rattle.cert_check.specs.Verdict.{IsJudged, Yes}
use Rattle.crpd_tool.specs.Shaped.{graphs_of}
use Rattle.cert_check.specs.declared.outcome.Verdict.{Verdict}
use Rattle.cert_check.specs.declared.outcome.Verdict.TheVariants as verdict
use Rattle.preempt_machine.specs.Safe.{IsKept, IsSafeWith}
use Rattle.preempt_machine.specs.Starts.{start_of_script}
use Rattle.run_account.proofs.Jobs.{lines_are}
use Rattle.sound_laws.specs.Headline.{CheckedCodeIsSafe}
use Rattle.crpd_io.specs.Outside.{Contents}
use Rattle.crpd_report.specs.Check.{check_text}
use Rattle.crpd_report.specs.Generate.{NoneLateLaw, answered_count, generate_text, jobs_line}
use Rattle.crpd_report.specs.Generate.{late_count, made_line}
use Rattle.crpd_report.specs.Simulate.{is_legal, run_line}
use Rattle.crpd_report.proofs.LateLine.{late_said}
use Rattle.crpd_report.proofs.Legality.{legal_decides}
use Rattle.gen_tasks.specs.GeneratedInput.{made}
use Rattle.gen_tasks.proofs.MadeLaw.{made_legal}
use Rattle.task_shapes.specs.Inputs.{SetWithCode}
use Rattle.crpd_input.specs.declared.halt.Halt.{Halt}
use Rattle.task_shapes.specs.Shapes.{SetWithShapes}
use Rattle.crpd_tool.specs.declared.answer.Answer.{Answer}
use Rattle.crpd_tool.specs.declared.status.Status.TheVariants.{Done}
use Rattle.crpd_tool.specs.Analyze.{without_certificate}
use Rattle.crpd_tool.specs.Generate.{GenerateEnds, GeneratedOf, IsRunJudged, answer_behind_line}
use Rattle.crpd_tool.specs.Generate.{made_input, node_count}
use Rattle.crpd_tool.specs.GenerateLaw.{DoneIsGenerated, IsGenerated}
use Rattle.crpd_tool.specs.Output.{ending_output}
use Rattle.crpd_tool.specs.Simulate.{completions_of, run_of}
use Rattle.crpd_tool.specs.Commands.{generate}
use Rattle.crpd_tool.proofs.MadeGood.{made_good, made_parts, made_run}
use Rattle.crpd_tool.proofs.Done.{output_done, shapes_done, yes_only}
use Rattle.crpd_tool.proofs.ReadSet.{IsReadFrom, built_of}

-- ---- Done results from a yes

not_done : (line file : List ℕ) (set : TaskSet) (e : BuildError)
    → (ending_output (answer_behind_line line (without_certificate file set e))).status ≡ Done → ⊥
not_done line file set Memory is = cc
not_done line file set (TooLarge task address) is = cc
not_done line file set (TooManyEntries count) is = cc
not_done line file set (Unschedulable task) is = cc

module _ (safe_law : CheckedCodeIsSafe) (none_law : NoneLateLaw) (n : ℕ) where
  abbrev script : Script
  script = (made n).script

  safe : (shaped : SetWithShapes) (c : Certificate) → IsReadFrom (made_input n) shaped
      → IsJudged shaped.input.set (graphs_of shaped) c Yes
      → IsSafeWith shaped.input.set shaped.input.code (responses c)
  safe shaped c read judged =
      let good = made_good n shaped.input read.input_is in
      safe_law shaped.input.set shaped.input.code (graphs_of shaped) c
      (record {
        ranges = good.ranges;
        words = good.words;
        graphs_of = built_of shaped read.shapes_are;
        says = judged;
      })

  none_late : (input : SetWithCode) (c : Certificate) → made_input n ≡ Ok input
      → IsSafeWith input.set input.code (responses c) → IsKept (run_of input script)
      → late_count script c (completions_of (run_of input script)) ≡ 0
  none_late input c is safely kept =
      let s = start_of_script input.set input.code script in
      none_law script c (run_of input script) (lines_are s script.cycles)
      (safely s script.cycles refl (made_run n input is) kept)

  said : (shaped : SetWithShapes) (c : Certificate) (kept : Bool) (text : List ℕ)
      → is_legal shaped.input.set script.jobs ≡ true
      → (IsTrue kept → late_count script c (completions_of (run_of shaped.input script)) ≡ 0)
      → text ≡ generate_text n (node_count shaped.graphs) shaped.input.set c verdict.Yes script
      (completions_of (run_of shaped.input script)) kept
      → (front : List ℕ) → text ≡ front ++ run_line true true
      → (before : List ℕ) × (jobs : ℕ) × (answered : ℕ)
      × (text ≡ before ++ jobs_line jobs answered 0 ++ run_line true true)
  unfolding generate_text
  said shaped c kept text lawful none is =
      let set = shaped.input.set in
      let ends = completions_of (run_of shaped.input script) in
      late_said text (made_line n (node_count shaped.graphs) ++ check_text set c verdict.Yes)
      (length script.jobs) (answered_count ends) (late_count script c ends)
      (is_legal set script.jobs) kept is lawful none

  generated : (shaped : SetWithShapes) (c : Certificate) (kept : Bool) (text : List ℕ)
      → IsReadFrom (made_input n) shaped → IsRunJudged script shaped c verdict.Yes kept
      → text ≡ generate_text n (node_count shaped.graphs) shaped.input.set c verdict.Yes script
      (completions_of (run_of shaped.input script)) kept → IsGenerated n text
  generated shaped c kept text read J text_is =
      let input = shaped.input in
      let is = read.input_is in
      let safely = safe shaped c read J.judged in
      let lawful : IsLegal input.set script.jobs =
      subst (λ s. IsLegal s script.jobs) (sym (made_parts n input is).set) (made_legal n) in
      let legal_said : is_legal input.set script.jobs ≡ true =
      (legal_decides input.set script.jobs).1 lawful in
      let none : IsTrue kept → late_count script c (completions_of (run_of input script)) ≡ 0 = λ k.
      none_late input c is safely (J.kept_so.0 k) in
      record {
        shaped = shaped;
        found = c;
        kept = kept;
        input_is = is;
        shapes_are = read.shapes_are;
        best = J.best;
        judged = J.judged;
        safe = safely;
        legal = lawful;
        legal_said = legal_said;
        kept_so = J.kept_so;
        text_is = text_is;
        none_late = none;
        late_0 = said shaped c kept text legal_said none text_is;
      }

  answered : (shaped : SetWithShapes) (ending : Result Answer Halt)
      → IsReadFrom (made_input n) shaped → GeneratedOf n script shaped ending
      → (ending_output ending).status ≡ Done → IsGenerated n (ending_output ending).text
  answered shaped ending read (inl (c, v, kept, J, end)) e =
      let yes : v ≡ verdict.Yes = yes_only v
      (ap (λ (r : Result Answer Halt). (ending_output r).status) (sym end) ∙ e) in
      let written : Verdict → List ℕ = λ x.
      generate_text n (node_count shaped.graphs) shaped.input.set c x script
      (completions_of (run_of shaped.input script)) kept in
      let text : (ending_output ending).text ≡ written v =
      ap (λ (r : Result Answer Halt). (ending_output r).text) end in
      generated shaped c kept (ending_output ending).text read
      (subst (λ x. IsRunJudged script shaped c x kept) yes J) (text ∙ ap written yes)
  answered shaped ending read (inr none) e =
      absurd (not_done (made_line n (node_count shaped.graphs)) (codes "generate") shaped.input.set
      none.0 (ap (λ (r : Result Answer Halt). (ending_output r).status) (sym none.3) ∙ e))

  ended : (ending : Result Answer Halt) → GenerateEnds n ending
      → (ending_output ending).status ≡ Done → IsGenerated n (ending_output ending).text
  ended ending is e =
      let shaped = shapes_done (made_input n) (GeneratedOf n script) ending is e in
      answered shaped.0 ending shaped.1 shaped.2 e

pub done_is_generated : CheckedCodeIsSafe → NoneLateLaw → (words : List (List ℕ))
    (contents : Contents) → DoneIsGenerated words contents
done_is_generated safe_law none_law words contents n output =
    output_done words contents (generate n) output (IsGenerated n) (ended safe_law none_law n)
