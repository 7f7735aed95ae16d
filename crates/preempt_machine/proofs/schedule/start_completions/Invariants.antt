use Rattle.std.proofs.Common.{◌≡◌, ℕ, ◌<◌, length, slice_index}
use Rattle.preempt_machine.specs.declared.End.TheVariants as «end»
use Rattle.preempt_machine.specs.Machine.{number_in_script}
use Rattle.preempt_machine.specs.Schedule.{script_line, completion}
use Rattle.preempt_machine.proofs.schedule.start_completions.Given as goal

abbrev pub invariant-loop-line : goal.invariant-loop-line
invariant-loop-line l =
    record {
      long : length l.completions.items ≡ l.line-index;
      each : (x : ℕ) → x < l.line-index → completion l.completions.items x ≡ record {
        job = record {
          task = (script_line l.lines x).task;
          number = number_in_script l.lines (script_line l.lines x).task.0 x;
        };
        «end» = «end».Unreleased;
      };
      count : length l.counts.items ≡ l.tasks;
      counts : (t : ℕ) → t < l.tasks
          → slice_index l.counts.items t ≡ number_in_script l.lines t l.line-index;
    }
