use Rattle.std.proofs.Common.{◌*◌, inl, inr, arith}
use Rattle.std.proofs.lemmas.Bool.{cases_lt}
use Rattle.crpd_base.proofs.NumbersLeft.{least_before, least_in_word, none_in_word}
use Rattle.crpd_base.proofs.members.least_from.Goals as goal

pub returns-then-left-ne0 : goal.returns-then-left-ne0
returns-then-left-ne0 g c =
    least_before c.args.set.now c.args.start c.loop-from.from (64 * g.row.W) _
    c.loop-from.invariant.later c.loop-from.invariant.passed
    (least_in_word c.args.set.now c.loop-from.from g.row.W c.word.result c.loop-from-test.true
    c.word.type_inv c.word.ensures c.if-left-ne0.true)

pub loop-from-preserved : goal.loop-from-preserved
loop-from-preserved g c = record {
  later = omega (arith, c.loop-from.invariant.later);
  passed = λ t low high. elim (cases_lt t c.loop-from.from) [
    | inl before ↦ c.loop-from.invariant.passed t low before
    | inr after ↦
        none_in_word c.args.set.now c.loop-from.from c.word.result c.word.ensures
        c.if-left-ne0.false t after high
  ];
}
