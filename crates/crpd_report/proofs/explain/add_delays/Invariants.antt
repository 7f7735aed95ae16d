use Rattle.std.proofs.Common.{◌≡◌, ◌++◌, string_bytes, flat_map}
use Rattle.std.specs.List.{range_with_len}
use Rattle.crpd_report.specs.Explain.{delay_line}
use Rattle.crpd_report.proofs.explain.add_delays.Given as goal

abbrev pub invariant-loop-place : goal.invariant-loop-place
invariant-loop-place l =
    string_bytes l.text ≡ string_bytes l.fn.text ++ flat_map (delay_line l.set l.certificate)
    (range_with_len 0 l.place)
