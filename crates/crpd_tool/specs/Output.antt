-- What the program writes and with which status, for its words and the contents of the files.
use Rattle.std.specs.Prelude.{◌≡◌, ℕ, List, [], Option, MatchOption, Result, Ok, Err}
use Rattle.crpd_io.specs.Outside.{Contents, AppendsPrefix, output_after}
use Rattle.crpd_input.specs.Steps.{Exactly}
use Rattle.crpd_input.specs.declared.halt.Halt.{Halt}
use Rattle.crpd_input.specs.declared.halt.Halt.TheVariants.{Refused, Memory, Fault}
use Rattle.crpd_tool.specs.Commands.{Command, check, list, simulate, sets, analyze, explain}
use Rattle.crpd_tool.specs.Commands.{classic, slack, refine, update, generate, command_of}
use Rattle.crpd_tool.specs.Analyze.{AnalyzeEnds}
use Rattle.crpd_tool.specs.Check.{CheckEnds}
use Rattle.crpd_tool.specs.Classic.{ClassicEnds}
use Rattle.crpd_tool.specs.Explain.{ExplainEnds}
use Rattle.crpd_tool.specs.Generate.{GenerateEnds}
use Rattle.crpd_tool.specs.List.{list_of}
use Rattle.crpd_tool.specs.Refine.{RefineEnds}
use Rattle.crpd_tool.specs.Sets.{SetsEnds}
use Rattle.crpd_tool.specs.Simulate.{SimulateEnds}
use Rattle.crpd_tool.specs.Slack.{SlackEnds}
use Rattle.crpd_tool.specs.Texts.{bad_words_text, refusal_text}
use Rattle.crpd_tool.specs.Update.{UpdateEnds}
use Rattle.crpd_tool.specs.declared.answer.Answer.{Answer}
use Rattle.crpd_tool.specs.declared.answer.Outcome.{Outcome}
use Rattle.crpd_tool.specs.declared.answer.Outcome.TheVariants.{Done, No}
use Rattle.crpd_tool.specs.declared.status.Status.{Status}
use Rattle.crpd_tool.specs.declared.status.Status.TheVariants as exit

-- the possible ends of the steps of each command
abbrev pub Ends : Command → Contents → Result Answer Halt → Type 0
Ends (check set certificate) contents = CheckEnds contents set certificate
Ends (list set name) contents = Exactly (list_of contents set name)
Ends (simulate set script) contents = SimulateEnds contents set script
Ends (sets set) contents = SetsEnds contents set
Ends (analyze set) contents = AnalyzeEnds contents set
Ends (classic set) contents = ClassicEnds contents set
Ends (slack set) contents = SlackEnds contents set
Ends (refine set) contents = RefineEnds contents set
Ends (update old_set old_certificate new_set) contents =
    UpdateEnds contents old_set old_certificate new_set
Ends (generate n) contents = GenerateEnds n
Ends (explain set certificate script) contents = ExplainEnds contents set certificate script

-- the status of an outcome
abbrev pub status_of : Outcome → Status
status_of Done = exit.Done
status_of No = exit.No

-- a whole text, and the status with which it is written
pub record Output : Type 0 where
  pub text : List ℕ
  pub status : Status

-- A refusal is a text too. Out of memory and a fault write none, and no definition of a command's
-- steps gives them.
abbrev pub halt_output : Halt → Output
halt_output (Refused refusal) = record { text = refusal_text refusal; status = exit.Refused }
halt_output Memory = record { text = []; status = exit.NoMemory }
halt_output Fault = record { text = []; status = exit.ReadFault }

-- the output of an end of a command's steps
abbrev pub ending_output : Result Answer Halt → Output
ending_output (Ok answer) = record { text = answer.text; status = status_of answer.outcome }
ending_output (Err halt) = halt_output halt

-- an output of the command
abbrev pub IsOutputOf : Contents → Command → Output → Type 0
IsOutputOf contents command output =
    (ending : Result Answer Halt) × Ends command contents ending × (output ≡ ending_output ending)

-- the output for words of no command's form
abbrev pub bad_words : Output
bad_words = record { text = bad_words_text; status = exit.BadWords }

-- an output for any words
unfoldable pub IsOut : List (List ℕ) → Contents → Output → Type 0
IsOut words contents output =
    MatchOption (command_of words) (output ≡ bad_words)
    (λ command. IsOutputOf contents command output)

-- for any words and contents there is at most one output
abbrev pub OneAnswer : Type 0
OneAnswer =
    (words : List (List ℕ)) (contents : Contents) (one other : Output) → IsOut words contents one
    → IsOut words contents other → one ≡ other

-- and it cannot be that they have none: so they have exactly one. The double negation is for what
-- cannot be decided by computing, as what is surely cached over all walks.
abbrev pub AnOutputExists : Type 0
AnOutputExists =
    (words : List (List ℕ)) (contents : Contents)
    → ((output : Output) → IsOut words contents output → ⊥) → ⊥

-- the statuses with which a whole text is written
abbrev pub IsWhole : Status → Type 0
IsWhole exit.Done = Unit {0}
IsWhole exit.No = Unit {0}
IsWhole exit.Refused = Unit {0}
IsWhole exit.BadWords = Unit {0}
IsWhole exit.ReadFault = ⊥
IsWhole exit.WriteFault = ⊥
IsWhole exit.NoMemory = ⊥

-- every output is a whole text
abbrev pub OutputsAreWhole : Type 0
OutputsAreWhole =
    (words : List (List ℕ)) (contents : Contents) (output : Output) → IsOut words contents output
    → IsWhole output.status

-- a whole output was written, with these bytes and this status
abbrev pub WritesAnswer : List (List ℕ) → Contents → (old new : Option (List ℕ)) → Status → Type 0
WritesAnswer words contents old new s =
    (output : Output) × IsOut words contents output × (s ≡ output.status)
    × (new ≡ output_after old output.text)

-- what was written before stays in front of what is written
abbrev pub Appends : (old new : Option (List ℕ)) → Type 0
Appends old new = (text : List ℕ) × (new ≡ output_after old text)

-- a prefix of an output's text was written
abbrev pub WritesPrefix : List (List ℕ) → Contents → (old new : Option (List ℕ)) → Type 0
WritesPrefix words contents old new =
    (output : Output) × IsOut words contents output × AppendsPrefix old new output.text
