use Rattle.std.proofs.Common.{◌≡◌, ◌+◌, ◌-◌, ◌^◌, ◌<◌, ◌≤◌, get_or, Some, ap, ◌∙◌, arith, slice_get}
use Rattle.std.proofs.lemmas.Option.{slice_get-get_or}
use Rattle.code_map.specs.NextPassing.{IsNextPassing}
use Rattle.code_map.specs.Words.{owns}
use Rattle.crpd_report.specs.List.{line_of}
use Rattle.crpd_report.proofs.Addresses.{all_lines, blank, more_lines, no_lines, whole_list}
use Rattle.crpd_report.proofs.list.list_text.Goals as goal

pub loop-address-init : goal.loop-address-init
loop-address-init c = record {
  lines = λ image here. c.new-text.ensures.items ∙ no_lines c.args.code.now (owns image);
  below = omega arith;
}

pub loop-address-smaller : goal.loop-address-smaller
loop-address-smaller c =
    let image = get_or c.args.code.now.images c.args.task.0 blank in
    let next : IsNextPassing (owns image) c.loop-address.from c.in-Some.address =
    c.in-Some.ensures.is image
    (slice_get-get_or c.args.code.now.images c.args.task.0 blank c.requires) in
    let low : c.loop-address.from ≤ c.in-Some.address = next.reached in
    let smaller : 2 ^ 32 - (c.in-Some.address + 1) < 2 ^ 32 - c.loop-address.from =
    omega (arith, c.in-Some.ensures.within) in smaller

pub loop-address-preserved : goal.loop-address-preserved
loop-address-preserved c = record {
  lines = λ image here.
      c.in_ok-add_line.ensures
      ∙ more_lines c.args.code.now c.args.task image here c.loop-address.text.items
      c.loop-address.from c.in-Some.address (line_of c.in-Some.address c.word.result)
      (c.loop-address.invariant.lines image here) (c.in-Some.ensures.is image here)
      (ap (line_of c.in-Some.address) c.word.ensures.is);
  below = omega (arith, c.in-Some.ensures.within);
}

pub returns : goal.returns
returns c =
    let image = get_or c.args.code.now.images c.args.task.0 blank in
    let here : slice_get c.args.code.now.images c.args.task.0 ≡ Some image =
    slice_get-get_or c.args.code.now.images c.args.task.0 blank c.requires in
    whole_list c.args.code.now c.args.task image here c.loop-address.text.items
    (all_lines c.args.code.now c.args.task image here c.loop-address.text.items c.loop-address.from
    (2 ^ 32) c.loop-address.invariant.below (c.loop-address.invariant.lines image here)
    (c.in_default.ensures.is image here))
