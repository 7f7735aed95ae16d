use Rattle.crpd_tool.proofs.Digits.{below_more, written_all, written_more}
use Rattle.crpd_tool.proofs.number.value.Goals as goal

pub loop-digit-preserved : goal.loop-digit-preserved
loop-digit-preserved c = record {
  below =
      below_more c.args.digits.now c.loop-digit.number c.loop-digit.digit-index c.from.result
      c.loop-digit-test.true c.requires.digits c.from.ensures c.loop-digit.invariant.below;
  written =
      written_more c.args.digits.now c.loop-digit.number c.loop-digit.digit-index c.from.result
      c.loop-digit-test.true c.from.ensures c.loop-digit.invariant.written;
}

pub returns : goal.returns
returns c =
    written_all c.args.digits.now c.loop-digit.number c.loop-digit.digit-index
    c.loop-digit-test.false c.loop-digit.invariant.written
