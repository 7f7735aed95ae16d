-- What the program writes and with which status, for its words and the contents of the files: what
-- only contracts inside the crate cite.
use Rattle.std.specs.Prelude.{◌≡◌, ◌≢◌, ◌≤◌, ℕ, List, Option, Result, None, Some, IsErrOf, IsSome}
use Rattle.crpd_io.specs.Outside.{AddsAnswers, Contents, FileAnswer, Rose, AppendsPrefix}
use Rattle.crpd_io.specs.Outside.{output_after}
use Rattle.crpd_input.specs.Steps.{HoldsFor, HoldsWhereTold}
use Rattle.crpd_input.specs.declared.halt.Halt.{Halt}
use Rattle.crpd_input.specs.declared.halt.Halt.TheVariants.{Fault}
use Rattle.crpd_tool.specs.declared.answer.Answer.{Answer}
use Rattle.crpd_tool.specs.declared.status.Status.{Status}
use Rattle.crpd_tool.specs.declared.status.Status.TheVariants as exit
use Rattle.crpd_tool.specs.Asking.{AsksInOrder}
use Rattle.crpd_tool.specs.BadWords.{TellsBadWords}
use Rattle.crpd_tool.specs.Commands.{command_of, generate}
use Rattle.crpd_tool.specs.Output.{Appends, IsWhole, WritesAnswer, WritesPrefix, ending_output}

-- the statuses with which writing a text ends
abbrev pub IsWritten : Status → Type 0
IsWritten exit.Done = Unit {0}
IsWritten exit.No = Unit {0}
IsWritten exit.Refused = Unit {0}
IsWritten exit.BadWords = Unit {0}
IsWritten exit.ReadFault = ⊥
IsWritten exit.WriteFault = Unit {0}
IsWritten exit.NoMemory = ⊥

-- An output only grows: its fault count never falls, and what was written before stays in front.
pub record Grows (old new : Option (List ℕ)) (before now : ℕ) : Type 0 where
  pub later : before ≤ now
  pub appended : Appends old new

-- After writing a text: it was written whole and the status is the wanted one, or a counted fault
-- happened and a prefix of it was written.
pub record Finished (old new : Option (List ℕ)) (before now : ℕ) (text : List ℕ)
    (wanted s : Status) : Type 0 where
  pub written : IsWritten s
  pub whole : IsWhole s → (s ≡ wanted) × (new ≡ output_after old text)
  pub fault : s ≡ exit.WriteFault → Rose before now × AppendsPrefix old new text

-- After writing the result of the steps of a command: with a status of a whole output, the whole
-- text and its status; with a fault of the output, a prefix of a text; and nothing after a fault of
-- the files or when out of memory.
pub record Told (ending : Result Answer Halt) (old new : Option (List ℕ)) (before now : ℕ)
    (s : Status) : Type 0 where
  pub whole : IsWhole s → (s ≡ (ending_output ending).status)
      × (new ≡ output_after old (ending_output ending).text)
  pub fault : s ≡ exit.WriteFault → IsWhole (ending_output ending).status × Rose before now
      × AppendsPrefix old new (ending_output ending).text
  pub unread : s ≡ exit.ReadFault → IsErrOf ending Fault × (new ≡ old)
  pub no_memory : s ≡ exit.NoMemory → new ≡ old
  pub of_words : s ≢ exit.BadWords

-- What performing the words leaves in files and output, each clause as the top call states it.
pub record Performs {F O : Type 0} (contents : F → Option Contents) (read_faults : F → ℕ)
    (log : F → List FileAnswer) (written : O → Option (List ℕ)) (write_faults : O → ℕ)
    (words : List (List ℕ))
    (files files_after : F) (out out_after : O) (s : Status) : Type 0 where
  pub exact_output : IsWhole s → HoldsWhereTold (contents files)
      (λ c. WritesAnswer words c (written out) (written out_after) s)
  pub exact_for_answers : HoldsFor (log files) (log files_after)
      (λ c. (IsWhole s → WritesAnswer words c (written out) (written out_after) s)
      × (s ≡ exit.WriteFault → WritesPrefix words c (written out) (written out_after)))
  pub answers_added : AddsAnswers (contents files) (log files) (log files_after)
  pub asked_files : AsksInOrder words (log files) (log files_after)
  pub read_cause : s ≡ exit.ReadFault → Rose (read_faults files) (read_faults files_after)
      × (written out_after ≡ written out) × IsSome (command_of words)
  pub write_cause : s ≡ exit.WriteFault → Rose (write_faults out) (write_faults out_after)
      × HoldsWhereTold (contents files) (λ c. WritesPrefix words c (written out) (written out_after))
  pub memory_cause : s ≡ exit.NoMemory → (written out_after ≡ written out)
      × IsSome (command_of words)
  pub files_unchanged : contents files_after ≡ contents files
  pub counts_rise : (read_faults files ≤ read_faults files_after)
      × (write_faults out ≤ write_faults out_after)
  pub appended : Appends (written out) (written out_after)
  pub files_untouched : command_of words ≡ None → files_after ≡ files
  pub generate_untouched : (n : ℕ) → command_of words ≡ Some (generate n)
      → (files_after ≡ files) × (s ≢ exit.ReadFault)
  pub generate_exact : (n : ℕ) → command_of words ≡ Some (generate n) → (c : Contents)
      → (IsWhole s → WritesAnswer words c (written out) (written out_after) s)
      × (s ≡ exit.WriteFault → WritesPrefix words c (written out) (written out_after))
  pub bad_words_only : s ≡ exit.BadWords → command_of words ≡ None
  pub bad_words : command_of words ≡ None → TellsBadWords (written out) (written out_after) s
