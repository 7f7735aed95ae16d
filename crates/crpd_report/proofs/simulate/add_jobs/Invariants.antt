use Rattle.std.proofs.Common.{◌≡◌, ◌++◌, length, take, string_bytes, flat_map, zip}
use Rattle.crpd_report.specs.Simulate.{job_line}
use Rattle.crpd_report.proofs.simulate.add_jobs.Given as goal

abbrev pub invariant-loop-job : goal.invariant-loop-job
invariant-loop-job l =
    string_bytes l.text ≡ string_bytes l.fn.text
    ++ flat_map (job_line l.set) (take (length l.yielded) (zip l.jobs l.completions))
