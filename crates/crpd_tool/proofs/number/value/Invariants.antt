use Rattle.std.proofs.Common.{◌≡◌, ◌^◌, ◌<◌, drop}
use Rattle.crpd_tool.specs.Numbers.{value_after}
use Rattle.crpd_tool.proofs.number.value.Given as goal

abbrev pub invariant-loop-digit : goal.invariant-loop-digit
invariant-loop-digit l = record {
  below : l.number < 10 ^ l.digit-index;
  written : value_after l.number (drop l.digit-index l.digits) ≡ value_after 0 l.digits;
}
