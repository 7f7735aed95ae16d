use Rattle.std.proofs.Common.{◌≡◌, ◌*◌, ◌≤◌, take, sum_by}
use Rattle.crpd_base.specs.Entries.{state_entries}
use Rattle.crpd_base.proofs.entries.task_entries.Given as goal

abbrev pub invariant-loop-state : goal.invariant-loop-state
invariant-loop-state l = record {
  is : l.found ≡ sum_by state_entries (take l.state-index l.states);
  small : l.found ≤ 1024 * l.state-index;
}
