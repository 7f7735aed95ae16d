-- `update`, given the certificate that `analyze` wrote, writes what `analyze` writes.
use Rattle.std.specs.Prelude.{◌≡◌, ℕ, List, Some}
use Rattle.crpd_io.specs.Outside.{Contents}
use Rattle.crpd_input.specs.Reading.{input_in}
use Rattle.crpd_tool.specs.Commands.{analyze, command_of, update}
use Rattle.crpd_tool.specs.Output.{IsOut, Output}
use Rattle.crpd_tool.specs.declared.status.Status.TheVariants.{Done}

-- over any contents in which the old set and its ELF files mean the same and a file has the text,
-- the output of `update` of the old set, this file and a new set is that of `analyze` of the new
-- set: the same text with the same status, whatever this is
abbrev pub UpdatesAsAnalyzed : Contents → List ℕ → List ℕ → Type 0
UpdatesAsAnalyzed contents old_set text =
    (others : Contents) (file new_set : List ℕ) (words further : List (List ℕ))
    (updated analyzed : Output) →
    input_in others old_set ≡ input_in contents old_set → others file ≡ Some text
    → command_of words ≡ Some (update old_set file new_set) → IsOut words others updated
    → command_of further ≡ Some (analyze new_set) → IsOut further others analyzed
    → updated ≡ analyzed

-- this holds of the text of each output of `analyze OLDSET` with the status Done
abbrev pub UpdatedIsAnalyzed : Type 0
UpdatedIsAnalyzed =
    (words : List (List ℕ)) (contents : Contents) (old_set : List ℕ) (output : Output) →
    command_of words ≡ Some (analyze old_set) → IsOut words contents output → output.status ≡ Done
    → UpdatesAsAnalyzed contents old_set output.text
