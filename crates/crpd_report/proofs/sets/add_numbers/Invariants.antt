use Rattle.std.proofs.Common.{◌≡◌, ◌++◌, string_bytes, flat_map}
use Rattle.crpd_base.specs.Sets.{has}
use Rattle.crpd_report.specs.List.{those_below}
use Rattle.crpd_report.specs.Sets.{number_text}
use Rattle.crpd_report.proofs.sets.add_numbers.Given as goal

abbrev pub invariant-loop-number : goal.invariant-loop-number
invariant-loop-number l =
    string_bytes l.text ≡ string_bytes l.fn.text
    ++ flat_map number_text (those_below l.number (has l.set))
