use Rattle.std.proofs.Common.{◌-◌, ◌<◌, arith, length}
use Rattle.code_map.proofs.Found.{ascending, blank}
use Rattle.code_map.proofs.NextWord.{none_anywhere, none_before, none_more, next_found}
use Rattle.code_map.proofs.runs.next_word.Goals as goal

pub runs_up_to-requires : goal.runs_up_to-requires
runs_up_to-requires c = ascending c.args.images.now c.args.runs.now c.requires

pub loop-place-init : goal.loop-place-init
loop-place-init c = λ k lt.
    let n = c.runs_up_to.result - 1 in
    let within : n < length c.args.runs.now = omega arith in
    none_before c.args.images.now c.args.runs.now c.requires c.args.from k n (omega arith) within
    (c.runs_up_to.ensures.before n blank (omega arith) (omega arith))

pub loop-place-preserved : goal.loop-place-preserved
loop-place-preserved c =
    none_more c.args.images.now c.args.runs.now c.requires c.args.from c.loop-place.place
    c.in_default.ensures.is c.loop-place.invariant

pub returns-in-Some-clause-is : goal.returns-in-Some-clause-is
returns-in-Some-clause-is c =
    next_found c.args.images.now c.args.runs.now c.requires c.args.from c.loop-place.place
    c.in-Some.address c.loop-place-test.true (omega (arith, c.in-Some.ensures.within))
    c.loop-place.invariant c.in-Some.ensures.is

pub returns-clause-is : goal.returns-clause-is
returns-clause-is c =
    none_anywhere c.args.images.now c.args.runs.now c.requires c.args.from c.loop-place.place
    (omega arith) c.loop-place.invariant
