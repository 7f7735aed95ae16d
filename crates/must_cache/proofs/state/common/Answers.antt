use Rattle.std.proofs.Common.{◌∙◌, sym}
use Rattle.must_cache.proofs.Blocks.{common_none, common_same}
use Rattle.must_cache.proofs.state.common.Goals as goal

pub returns-then-ne : goal.returns-then-ne
returns-then-ne c = common_none c.args.mine c.args.other (sym c.ne.ensures ∙ c.if-ne.true)

pub returns : goal.returns
returns c = common_same c.args.mine c.args.other (sym c.ne.ensures ∙ c.if-ne.false)
