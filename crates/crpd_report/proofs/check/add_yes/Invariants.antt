use Rattle.std.proofs.Common.{◌≡◌, [], ◌∷◌, ◌++◌, codes, length, take, string_bytes, flat_map, zip}
use Rattle.crpd_report.specs.Check.{task_line}
use Rattle.crpd_report.proofs.check.add_yes.Given as goal

abbrev pub invariant-loop-task : goal.invariant-loop-task
invariant-loop-task l =
    string_bytes l.text ≡ (string_bytes l.fn.text ++ (codes "yes" ++ 10 ∷ []))
    ++ flat_map task_line (take (length l.yielded) (zip l.set.tasks l.certificate.tasks))
