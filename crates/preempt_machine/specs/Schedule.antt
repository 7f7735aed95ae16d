-- The lines of a script and the completions of its jobs, by place.
use Rattle.std.specs.Prelude.{ℕ, List, slice_index_or}
use Rattle.crpd_base.specs.declared.data.ScriptJob.{ScriptJob}
use Rattle.preempt_machine.specs.declared.Completion.{Completion}
use Rattle.preempt_machine.specs.declared.End.TheVariants as «end»
use Rattle.preempt_machine.specs.Machine.{no_job}

-- the line of the script at a place
abbrev pub script_line : List ScriptJob → ℕ → ScriptJob
script_line lines x = slice_index_or lines x no_job.line

-- the completion at a place
abbrev pub completion : List Completion → ℕ → Completion
completion cs x =
    slice_index_or cs x (record {
      job = record { task = record { 0 = 0 }; number = 0 };
      «end» = «end».Unreleased;
    })
