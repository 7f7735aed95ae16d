use Rattle.std.proofs.Common.{◌≡◌, [], ◌∷◌, ◌++◌, codes, length, take, string_bytes, flat_map, zip}
use Rattle.crpd_report.specs.Refine.{refined_line}
use Rattle.crpd_report.proofs.refine.add_tasks.Given as goal

abbrev pub invariant-loop-task : goal.invariant-loop-task
invariant-loop-task l =
    string_bytes l.text ≡ (string_bytes l.fn.text ++ (codes "yes" ++ 10 ∷ []))
    ++ flat_map refined_line (take (length l.yielded) (zip l.set.tasks l.tasks))
