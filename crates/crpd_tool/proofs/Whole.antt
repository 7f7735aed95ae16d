-- An output is a whole text: no command's steps end out of memory or with a fault.
use Rattle.std.proofs.Common.{◌≡◌, ◌≢◌, ℕ, List, Option, Some, None, Result, Ok, Err, refl, sym}
use Rattle.std.proofs.Common.{subst, inl, inr, ok_or, MatchOption}
use Rattle.crpd_base.specs.declared.data.Certificate.{Certificate}
use Rattle.crpd_base.specs.declared.data.Script.{Script}
use Rattle.crpd_base.specs.declared.data.TaskSet.{TaskSet}
use Rattle.cert_build.specs.Best.{Demands}
use Rattle.cert_build.specs.declared.error.BuildError.{BuildError}
use Rattle.cert_build.specs.declared.error.BuildError.TheVariants as build
use Rattle.cert_check.specs.declared.outcome.Verdict.TheVariants.{Yes, No}
use Rattle.delay_classic.specs.Demand.{classic_demands}
use Rattle.delay_count.specs.Demand.{demand}
use Rattle.delay_point.specs.declared.error.RefineError.{RefineError}
use Rattle.delay_point.specs.declared.error.RefineError.TheVariants as refine_error
use Rattle.gen_tasks.specs.GeneratedInput.{made}
use Rattle.task_shapes.specs.Shapes.{SetWithShapes}
use Rattle.crpd_io.specs.Outside.{Contents}
use Rattle.crpd_input.specs.declared.halt.Halt.{Halt}
use Rattle.crpd_input.specs.declared.halt.Halt.TheVariants.{Refused, Memory, Fault}
use Rattle.crpd_input.specs.Reading.{certificate_in, code_in, input_in, set_in}
use Rattle.crpd_input.specs.Script.{script_in}
use Rattle.crpd_input.specs.Shapes.{GraphsFrom, ShapedFrom, ShapedIn}
use Rattle.crpd_input.specs.Steps.{Exactly, Then, refusal}
use Rattle.crpd_input.specs.declared.cause.Cause.TheVariants as cause
use Rattle.crpd_report.specs.Generate.{made_line}
use Rattle.crpd_input.proofs.Told.{IsAnswered, IsTold, and_told, certificate_told, code_in_told}
use Rattle.crpd_input.proofs.Told.{exactly_told, graphs_told, input_told, script_told, set_in_told}
use Rattle.crpd_input.proofs.Told.{shaped_in_told, shaped_told, then_told}
use Rattle.crpd_tool.specs.Analyze.{AnalysisBy, without_certificate}
use Rattle.crpd_tool.specs.Check.{CheckFromShapes, VerdictOf}
use Rattle.crpd_tool.specs.Commands.{Command, analyze, check, classic, command_of, explain, generate}
use Rattle.crpd_tool.specs.Commands.{list, refine, sets, simulate, slack, update}
use Rattle.crpd_tool.specs.Explain.{ExplainFromCertificate, ExplainFromShapes, ExplanationOf}
use Rattle.crpd_tool.specs.Generate.{GeneratedOf, answer_behind_line, contents_of_files}
use Rattle.crpd_tool.specs.Generate.{made_input, made_name, named_files, node_count}
use Rattle.crpd_tool.specs.List.{list_of, task_by_name}
use Rattle.crpd_tool.specs.Output.{Ends, IsOut, IsOutputOf, IsWhole, Output, OutputsAreWhole}
use Rattle.crpd_tool.specs.Output.{bad_words, ending_output}
use Rattle.crpd_tool.specs.Refine.{RefinedOf, without_windows}
use Rattle.crpd_tool.specs.Sets.{TextOf}
use Rattle.crpd_tool.specs.Simulate.{ReportOf}
use Rattle.crpd_tool.specs.Slack.{SlackOf}
use Rattle.crpd_tool.specs.Update.{UpdateFromCertificate, UpdateFromShapes, UpdateOf}
use Rattle.crpd_tool.specs.declared.answer.Answer.{Answer}
use Rattle.crpd_tool.proofs.Finish.{of_outcome}

-- a result with an answer is a value or a refusal
answered : (r : Result Answer Halt) (answer : Answer) → r ≡ Ok answer → IsAnswered r
answered r answer is = subst IsAnswered (sym is) tt

-- ---- without a certificate

without_told : (file : List ℕ) (set : TaskSet) (e : BuildError) → e ≢ build.Memory
    → IsAnswered (without_certificate file set e)
without_told file set build.Memory free = absurd (free refl)
without_told file set e free = tt

behind_told : (line : List ℕ) (r : Result Answer Halt) → IsAnswered r
    → IsAnswered (answer_behind_line line r)
behind_told line (Ok answer) told = tt
behind_told line (Err halt) told = told

analysis_told : (demands : TaskSet → Demands) (file : List ℕ) (shaped : SetWithShapes)
    → IsTold (AnalysisBy demands file shaped)
analysis_told demands file shaped r (inl found) = answered r _ found.2
analysis_told demands file shaped r (inr none) =
    subst IsAnswered (sym none.3) (without_told file shaped.input.set none.0 none.1)

update_told : (file : List ℕ) (old new : SetWithShapes) (c : Certificate)
    → IsTold (UpdateOf file old c new)
update_told file old new c r (inl denied) = answered r _ denied.4
update_told file old new c r (inr (judged, inl found)) = answered r _ found.2
update_told file old new c r (inr (judged, inr none)) =
    subst IsAnswered (sym none.3)
    (without_told file new.input.set none.0 none.1)

no_windows_told : (set : TaskSet) (e : RefineError) → e ≢ refine_error.Memory
    → IsAnswered (without_windows set e)
no_windows_told set refine_error.Memory free = absurd (free refl)
no_windows_told set e free = tt

refined_told : (shaped : SetWithShapes) → IsTold (RefinedOf shaped)
refined_told shaped r (inl found) = answered r _ found.2
refined_told shaped r (inr none) =
    subst IsAnswered (sym none.3) (no_windows_told shaped.input.set none.0 none.1)

generated_told : (n : ℕ) (script : Script) (shaped : SetWithShapes)
    → IsTold (GeneratedOf n script shaped)
generated_told n script shaped r (inl found) = answered r _ found.4
generated_told n script shaped r (inr none) =
    subst IsAnswered (sym none.3)
    (behind_told (made_line n (node_count shaped.graphs))
    (without_certificate made_name shaped.input.set none.0)
    (without_told made_name shaped.input.set none.0 none.1))

explained_told : (shaped : SetWithShapes) (c : Certificate) (given : Script)
    → IsTold (ExplanationOf shaped c given)
explained_told shaped c given r (Yes, judged, account) = answered r _ account.4
explained_told shaped c given r (No task clause place, judged, is) = answered r _ is

task_told : {A : Type 0} (o : Option A) (file name : List ℕ)
    → IsAnswered (ok_or o (refusal cause.NoSuchTask file name))
task_told None file name = tt
task_told (Some task) file name = tt

list_told : (contents : Contents) (file name : List ℕ)
    → IsTold (Exactly (list_of contents file name))
list_told contents file name =
    exactly_told (list_of contents file name)
    (and_told (set_in contents file) _ (set_in_told contents file) (λ s.
    and_told (ok_or (task_by_name s name) (refusal cause.NoSuchTask file name)) _
    (task_told (task_by_name s name) file name) (λ task.
    and_told (code_in contents file s) _ (code_in_told contents file s) (λ code. tt))))

made_told : (n : ℕ) → IsTold (Exactly (made_input n))
made_told n =
    let set = (made n).set in
    let files = contents_of_files (named_files set (made n).files) in
    exactly_told (made_input n)
    (and_told (code_in files made_name set) _ (code_in_told files made_name set) (λ code. tt))

-- ---- the commands

ends_told : (command : Command) (contents : Contents) → IsTold (Ends command contents)
ends_told (check set certificate) contents =
    then_told (ShapedIn contents set) (CheckFromShapes contents certificate)
    (shaped_in_told contents set) (λ x.
    then_told (Exactly (certificate_in contents certificate)) (VerdictOf x)
    (certificate_told contents certificate) (λ c r v. answered r _ v.2))
ends_told (list set name) contents = list_told contents set name
ends_told (simulate set script) contents =
    then_told (Exactly (input_in contents set)) _ (input_told contents set) (λ input.
    then_told (Exactly (script_in contents script input.set)) (ReportOf input)
    (script_told contents script input.set) (λ given r report. answered r _ report.2))
ends_told (sets set) contents =
    then_told (Exactly (input_in contents set)) _ (input_told contents set) (λ input.
    then_told (GraphsFrom input) (TextOf input) (graphs_told input)
    (λ graphs r text. answered r _ text.2))
ends_told (analyze set) contents =
    then_told (ShapedIn contents set) (AnalysisBy demand set) (shaped_in_told contents set)
    (analysis_told demand set)
ends_told (classic set) contents =
    then_told (ShapedIn contents set) (AnalysisBy classic_demands set) (shaped_in_told contents set)
    (analysis_told classic_demands set)
ends_told (slack set) contents =
    then_told (ShapedIn contents set) SlackOf (shaped_in_told contents set)
    (λ x r found. answered r _ found.3)
ends_told (refine set) contents =
    then_told (ShapedIn contents set) RefinedOf (shaped_in_told contents set) refined_told
ends_told (update old_set old_certificate new_set) contents =
    then_told (ShapedIn contents old_set) (UpdateFromShapes contents old_certificate new_set)
    (shaped_in_told contents old_set) (λ old.
    then_told (Exactly (certificate_in contents old_certificate))
    (UpdateFromCertificate contents new_set old) (certificate_told contents old_certificate) (λ c.
    then_told (ShapedIn contents new_set) (UpdateOf new_set old c) (shaped_in_told contents new_set)
    (λ new. update_told new_set old new c)))
ends_told (generate n) contents =
    then_told (Then (Exactly (made_input n)) ShapedFrom) (GeneratedOf n (made n).script)
    (then_told (Exactly (made_input n)) ShapedFrom (made_told n) shaped_told)
    (generated_told n (made n).script)
ends_told (explain set certificate script) contents =
    then_told (ShapedIn contents set) (ExplainFromShapes contents certificate script)
    (shaped_in_told contents set) (λ x.
    then_told (Exactly (certificate_in contents certificate))
    (ExplainFromCertificate contents script x) (certificate_told contents certificate) (λ c.
    then_told (Exactly (script_in contents script x.input.set)) (ExplanationOf x c)
    (script_told contents script x.input.set) (explained_told x c)))

ended_whole : (r : Result Answer Halt) → IsAnswered r → IsWhole (ending_output r).status
ended_whole (Ok answer) told = of_outcome answer.outcome
ended_whole (Err (Refused r)) told = tt
ended_whole (Err Memory) told = absurd told
ended_whole (Err Fault) told = absurd told

whole_for : (o : Option Command) (contents : Contents) (output : Output)
    → MatchOption o (output ≡ bad_words) (λ command. IsOutputOf contents command output)
    → IsWhole output.status
whole_for None contents output is = subst (λ (o : Output). IsWhole o.status) (sym is) tt
whole_for (Some command) contents output is =
    subst (λ (o : Output). IsWhole o.status) (sym is.2)
    (ended_whole is.0 (ends_told command contents is.0 is.1))

pub outputs_are_whole : OutputsAreWhole
unfolding IsOut
outputs_are_whole words contents output is = whole_for (command_of words) contents output is
