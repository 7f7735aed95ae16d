-- `check` accepts what `analyze`, `classic` and `update` wrote.
use Rattle.std.specs.Prelude.{◌≡◌, ℕ, List, Option, Some, None}
use Rattle.crpd_io.specs.Outside.{Contents}
use Rattle.crpd_input.specs.Reading.{input_in}
use Rattle.crpd_tool.specs.Commands.{Command, analyze, check, classic, command_of, update}
use Rattle.crpd_tool.specs.Output.{IsOut, Output}
use Rattle.crpd_tool.specs.declared.status.Status.TheVariants.{Done}

-- the set of which a command makes a certificate
abbrev pub certified_set : Command → Option (List ℕ)
certified_set (analyze set) = Some set
certified_set (classic set) = Some set
certified_set (update old_set old_certificate new_set) = Some new_set
certified_set _ = None

-- over any contents in which the set and its ELF files mean the same and a file has the text,
-- `check` of the set and this file has the output yes
abbrev pub IsAccepted : Contents → List ℕ → List ℕ → Type 0
IsAccepted contents set text =
    (others : Contents) (file : List ℕ) (words : List (List ℕ)) →
    input_in others set ≡ input_in contents set → others file ≡ Some text
    → command_of words ≡ Some (check set file)
    → (output : Output) × IsOut words others output × (output.status ≡ Done)

-- the text of each output with the status Done of a command that makes a certificate is accepted
abbrev pub DoneIsAccepted : List (List ℕ) → Contents → Type 0
DoneIsAccepted words contents =
    (command : Command) (set : List ℕ) (output : Output) →
    command_of words ≡ Some command → certified_set command ≡ Some set
    → IsOut words contents output → output.status ≡ Done → IsAccepted contents set output.text
