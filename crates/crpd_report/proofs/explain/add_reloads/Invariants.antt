use Rattle.std.proofs.Common.{◌≡◌, ◌++◌, take, string_bytes, flat_map}
use Rattle.crpd_report.specs.Explain.{reload_line}
use Rattle.crpd_report.proofs.explain.add_reloads.Given as goal

abbrev pub invariant-loop-reload : goal.invariant-loop-reload
invariant-loop-reload l =
    string_bytes l.text ≡ string_bytes l.fn.text
    ++ flat_map (reload_line l.set) (take l.reload-index l.reloads)
