-- The text of a certificate that a command made, which `check` accepts.
use Rattle.std.specs.Prelude.{◌≡◌, ℕ, List, Some, Ok}
use Rattle.crpd_base.specs.declared.data.Certificate.{Certificate}
use Rattle.cert_check.specs.declared.outcome.Verdict.TheVariants as verdict
use Rattle.cert_model.specs.Reading.{reading}
use Rattle.cert_model.specs.Writing.{text as certificate_text}
use Rattle.crpd_io.specs.Outside.{Contents}
use Rattle.task_shapes.specs.Inputs.{SetWithCode}
use Rattle.crpd_input.specs.Reading.{certificate_in, input_in}
use Rattle.crpd_tool.specs.Check.{CheckEnds, verdict_answer}
use Rattle.crpd_tool.specs.Texts.{with_line_feed}

-- the text of a certificate of a set with its code
pub record IsCheckedText (input : SetWithCode) (made : Certificate) (text : List ℕ) : Type 0 where
  pub text_is : text ≡ with_line_feed (certificate_text made)
  -- it is read as this certificate
  pub reads : reading text ≡ Ok made
  -- it is read as this certificate without the line feed too
  pub reads_bare : reading (certificate_text made) ≡ Ok made
  -- `check` answers yes for each contents in which the set is the same and a file has this text
  pub checks : (others : Contents) (file name : List ℕ) →
      input_in others file ≡ Ok input → others name ≡ Some text
      → CheckEnds others file name (Ok (verdict_answer input.set made verdict.Yes))
  -- or another text that is read as this certificate
  pub checks_read : (others : Contents) (file name : List ℕ) →
      input_in others file ≡ Ok input → certificate_in others name ≡ Ok made
      → CheckEnds others file name (Ok (verdict_answer input.set made verdict.Yes))
