use Rattle.std.proofs.Common.{ap, get_or, not, sym, take, ◌∙◌, ◌&&◌, ◌||◌, arith}
use Rattle.std.specs.List.{list_any}
use Rattle.elf_reader.specs.Segments.{meets, occupies}
use Rattle.elf_reader.proofs.Shared.{blank, goes_on, occupied_more, stops, told}
use Rattle.elf_reader.proofs.overlap.first_shared.Goals as goal

pub returns-then-not-branch-clause-is : goal.returns-then-not-branch-clause-is
returns-then-not-branch-clause-is c =
    stops c.args.headers.now c.loop-place.place _ (omega arith) c.loop-place.invariant.rest
    (told (take c.loop-place.place c.args.headers.now)
    (get_or c.args.headers.now c.loop-place.place blank) c.in_ok-add.field-0 _
    (c.loop-place.invariant.same _ _) c.in_ok-add.ensures.free ∙ ap not c.if-not-branch.true)

pub loop-place-preserved : goal.loop-place-preserved
loop-place-preserved c = record {
  apart = c.in_ok-add.ensures.apart;
  same = λ from to.
      c.in_ok-add.ensures.more from to
      ∙ (ap (λ b. list_any (meets from to) c.loop-place.ranges.entries
      || (b && occupies from to (get_or c.args.headers.now c.loop-place.place blank)))
      c.if-not-branch.false
      ∙ (ap (λ b. b || occupies from to (get_or c.args.headers.now c.loop-place.place blank))
      (c.loop-place.invariant.same from to)
      ∙ sym (occupied_more from to c.args.headers.now c.loop-place.place (omega arith))));
  rest = goes_on c.args.headers.now c.loop-place.place _ (omega arith) c.loop-place.invariant.rest
      (told (take c.loop-place.place c.args.headers.now)
      (get_or c.args.headers.now c.loop-place.place blank) c.in_ok-add.field-0 _
      (c.loop-place.invariant.same _ _) c.in_ok-add.ensures.free ∙ ap not c.if-not-branch.false);
}
