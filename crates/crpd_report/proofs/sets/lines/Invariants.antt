use Rattle.std.proofs.Common.{◌≡◌, [], ◌++◌, length, take, string_bytes, flat_map, zip}
use Rattle.crpd_report.specs.Sets.{task_lines}
use Rattle.crpd_report.proofs.sets.lines.Given as goal

abbrev pub invariant-loop-task : goal.invariant-loop-task
invariant-loop-task l =
    string_bytes l.text
    ≡ [] ++ flat_map task_lines (take (length l.yielded) (zip l.set.tasks l.parts))
