-- What `analyze` says of a set with another cost, and that no job is late with it.
use Rattle.std.specs.Prelude.{◌≡◌, ◌⊎◌, ℕ, ◌<◌, ◌≤◌, List, length, slice_index, Option, Some, Ok}
use Rattle.std.specs.Prelude.{IfSome, IsSomeAnd}
use Rattle.std.specs.Fmt.{decimal}
use Rattle.crpd_base.specs.Limits.{most_entries}
use Rattle.crpd_base.specs.Tasks.{deadline_of}
use Rattle.crpd_base.specs.declared.data.TaskSet.{TaskSet}
use Rattle.preempt_machine.specs.Safe.{IsSafeWith}
use Rattle.task_shapes.specs.Inputs.{SetWithCode}
use Rattle.crpd_io.specs.Outside.{Contents}
use Rattle.crpd_input.specs.Reading.{input_in}
use Rattle.crpd_input.specs.Steps.{refusal}
use Rattle.crpd_input.specs.declared.cause.Cause.TheVariants as cause
use Rattle.crpd_tool.specs.Commands.{analyze, command_of}
use Rattle.crpd_tool.specs.Output.{IsOut, Output, halt_output}
use Rattle.crpd_tool.specs.declared.status.Status.TheVariants.{Done}

-- the refusal because the certificate would have more than 4,000,000 state entries
abbrev pub IsEntriesRefusal : List ℕ → Output → Type 0
IsEntriesRefusal file output =
    (count : ℕ) × (most_entries < count)
    × (output ≡ halt_output (refusal cause.TooManyEntries file (decimal count)))

-- wherever a file means this set, with this code, each output of `analyze` has the status Done, or
-- is that refusal
abbrev pub IsAcceptedByAnalyze : SetWithCode → Type 0
IsAcceptedByAnalyze input =
    (words : List (List ℕ)) (contents : Contents) (file : List ℕ) (output : Output) →
    command_of words ≡ Some (analyze file) → input_in contents file ≡ Ok input →
    IsOut words contents output → (output.status ≡ Done) ⊎ IsEntriesRefusal file output

-- wherever a file means this set, with this code, no output of `analyze` has the status Done
abbrev pub IsRejectedByAnalyze : SetWithCode → Type 0
IsRejectedByAnalyze input =
    (words : List (List ℕ)) (contents : Contents) (file : List ℕ) (output : Output) →
    command_of words ≡ Some (analyze file) → input_in contents file ≡ Ok input →
    IsOut words contents output → output.status ≡ Done → ⊥

-- the set with its code is safe with a response of each task that is at most its deadline
pub record IsSchedulable (input : SetWithCode) : Type 0 where
  pub responses : List ℕ
  pub count : length responses ≡ length input.set.tasks
  pub in_deadline : (k : ℕ) → k < length input.set.tasks
      → slice_index responses k ≤ deadline_of input.set k
  pub safe : IsSafeWith input.set input.code responses

-- the same code with another set
abbrev pub with_set : SetWithCode → TaskSet → SetWithCode
with_set input set = record input { set = set }

-- a cost varies: with each cost up to the largest one, if there is one, `analyze` accepts the set,
-- and the set is schedulable; with each larger one `analyze` rejects it
pub record IsGreatestByAnalyze (at : ℕ → SetWithCode) (greatest : Option ℕ) : Type 0 where
  pub accepted : (c : ℕ) → IsSomeAnd greatest (λ g. c ≤ g) → IsAcceptedByAnalyze (at c)
  pub schedulable : (c : ℕ) → IsSomeAnd greatest (λ g. c ≤ g) → IsSchedulable (at c)
  pub rejected : (c : ℕ) → IfSome greatest (λ g. g < c) → IsRejectedByAnalyze (at c)
