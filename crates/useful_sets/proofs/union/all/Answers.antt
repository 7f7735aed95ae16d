use Rattle.std.proofs.Common.{[], ◌∙◌}
use Rattle.std.proofs.lemmas.List.{get_or_default}
use Rattle.must_cache.proofs.Members.{one_more}
use Rattle.useful_sets.proofs.union.all.Goals as goal

pub loop-more-preserved : goal.loop-more-preserved
loop-more-preserved g c =
    one_more c.loop-more.union c.more-item.result c.union.new.self c.union.ensures
    c.args.sets.now c.loop-more.more-index
    (c.more-item.is ∙ get_or_default c.args.sets.now c.loop-more.more-index c.more-item.result []
    c.loop-more-test.true)
    c.loop-more.invariant
