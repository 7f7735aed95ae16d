use Rattle.std.proofs.Common.{◌≡◌, ◌^◌, ◌-◌, ◌≤◌, Some, slice_get}
use Rattle.crpd_base.specs.declared.data.Image.{Image}
use Rattle.code_map.specs.Words.{owns}
use Rattle.crpd_report.specs.List.{word_lines, those_below}
use Rattle.crpd_report.proofs.list.list_text.Given as goal

abbrev pub invariant-loop-address : goal.invariant-loop-address
invariant-loop-address l = record {
  lines : (image : Image) → slice_get l.code.images l.task.0 ≡ Some image
      → l.text.items ≡ word_lines l.code (those_below l.from (owns image));
  below : l.from ≤ 2 ^ 32;
}

abbrev pub decreases-loop-address : goal.decreases-loop-address
decreases-loop-address l = 2 ^ 32 - l.from
