-- Where `classic` gives a certificate, so does `analyze`, and no window of `classic` is shorter.
use Rattle.std.specs.Prelude.{◌≡◌, ℕ, ◌<◌, ◌≤◌, List, length, Some, Ok}
use Rattle.crpd_base.specs.declared.data.Certificate.{Certificate}
use Rattle.cert_check.specs.JudgeInput.{window_at}
use Rattle.task_shapes.specs.Inputs.{SetWithCode}
use Rattle.crpd_io.specs.Outside.{Contents}
use Rattle.crpd_input.specs.Reading.{input_in}
use Rattle.crpd_tool.specs.CheckedText.{IsCheckedText}
use Rattle.crpd_tool.specs.Commands.{analyze, classic, command_of}
use Rattle.crpd_tool.specs.Output.{IsOut, Output}
use Rattle.crpd_tool.specs.declared.status.Status.TheVariants.{Done}

-- the files mean a set with its code; the texts are those of two certificates of it, and no window
-- in the first is shorter than in the second
pub record HasNoShorterWindows (contents : Contents) (set plain_text text : List ℕ) : Type 0 where
  pub input : SetWithCode
  pub plain : Certificate
  pub made : Certificate
  pub input_is : input_in contents set ≡ Ok input
  pub plain_certificate : IsCheckedText input plain plain_text
  pub certificate : IsCheckedText input made text
  pub no_shorter : (k : ℕ) → k < length input.set.tasks → window_at made k ≤ window_at plain k

-- if an output of `classic SET` has the status Done, so has every output of `analyze SET` over the
-- same contents, and no window in the certificate of `classic` is shorter than in that of `analyze`
abbrev pub ClassicIsNoShorter : Type 0
ClassicIsNoShorter =
    (words others : List (List ℕ)) (contents : Contents) (set : List ℕ) (output other : Output) →
    command_of words ≡ Some (classic set) → IsOut words contents output → output.status ≡ Done
    → command_of others ≡ Some (analyze set) → IsOut others contents other
    → (other.status ≡ Done) × HasNoShorterWindows contents set output.text other.text
