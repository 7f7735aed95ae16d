-- `check` accepts what the commands that make certificates wrote.
use Rattle.std.proofs.Common.{◌≡◌, ◌∙◌, ℕ, List, Some, Ok, refl, subst, sym}
use Rattle.crpd_base.specs.declared.data.Certificate.{Certificate}
use Rattle.cert_check.specs.declared.outcome.Verdict.TheVariants as verdict
use Rattle.crpd_io.specs.Outside.{Contents}
use Rattle.crpd_input.specs.Reading.{input_in}
use Rattle.task_shapes.specs.Inputs.{SetWithCode}
use Rattle.crpd_tool.specs.AcceptedText.{DoneIsAccepted, IsAccepted}
use Rattle.crpd_tool.specs.AnalyzeLaw.{DoneIsBest}
use Rattle.crpd_tool.specs.Check.{verdict_answer}
use Rattle.crpd_tool.specs.CheckedText.{IsCheckedText}
use Rattle.crpd_tool.specs.ClassicLaw.{DoneIsClassic}
use Rattle.crpd_tool.specs.Commands.{analyze, check, classic, explain, generate, list}
use Rattle.crpd_tool.specs.Commands.{refine, sets, simulate, slack, update}
use Rattle.crpd_tool.specs.Output.{ending_output}
use Rattle.crpd_tool.specs.UpdateLaw.{DoneIsUpdate}
use Rattle.crpd_tool.proofs.Finish.{out-some}

accepted : (contents : Contents) (set text : List ℕ) (input : SetWithCode) (made : Certificate)
    → input_in contents set ≡ Ok input → IsCheckedText input made text
    → IsAccepted contents set text
accepted contents set text input made is checked = λ others file words same told asked.
    let yes = verdict_answer input.set made verdict.Yes in (
      ending_output (Ok yes),
      out-some words others (check set file) (ending_output (Ok yes)) (sym asked)
          (Ok yes, checked.checks others set file (same ∙ is) told, refl),
      refl,
    )

same_set : (one other : List ℕ) → Some one ≡ Some other → one ≡ other
same_set one other e = cc

pub done_is_accepted : (words : List (List ℕ)) (contents : Contents) → DoneIsBest words contents
    → DoneIsClassic words contents → DoneIsUpdate words contents → DoneIsAccepted words contents
done_is_accepted words contents best sound renewed (analyze file) set output asked is out done =
    let found = best file output asked out done in
    subst (λ s. IsAccepted contents s output.text) (same_set file set is)
    (accepted contents file output.text found.shaped.input found.made found.input_is found.checked)
done_is_accepted words contents best sound renewed (classic file) set output asked is out done =
    let found = sound file output asked out done in
    subst (λ s. IsAccepted contents s output.text) (same_set file set is)
    (accepted contents file output.text found.shaped.input found.made found.input_is found.checked)
done_is_accepted words contents best sound renewed (update old_set old_certificate file) set output
    asked is out done =
    let found = renewed old_set old_certificate file output asked out done in
    subst (λ s. IsAccepted contents s output.text) (same_set file set is)
    (accepted contents file output.text found.new.input found.made found.new_is found.checked)
done_is_accepted words contents best sound renewed (check _ _) set output asked is out done =
    absurd cc
done_is_accepted words contents best sound renewed (list _ _) set output asked is out done =
    absurd cc
done_is_accepted words contents best sound renewed (simulate _ _) set output asked is out done =
    absurd cc
done_is_accepted words contents best sound renewed (sets _) set output asked is out done =
    absurd cc
done_is_accepted words contents best sound renewed (slack _) set output asked is out done =
    absurd cc
done_is_accepted words contents best sound renewed (generate _) set output asked is out done =
    absurd cc
done_is_accepted words contents best sound renewed (explain _ _ _) set output asked is out done =
    absurd cc
done_is_accepted words contents best sound renewed (refine _) set output asked is out done =
    absurd cc
