use Rattle.std.proofs.Common.{◌∙◌, arith}
use Rattle.std.proofs.lemmas.List.{take_all}
use Rattle.crpd_base.proofs.Elements.{copied_more}
use Rattle.crpd_base.proofs.copy.copy_items.Goals as goal

pub loop-item-preserved : goal.loop-item-preserved
loop-item-preserved g c =
    copied_more _ _ _ _ _ _ (omega arith) c.loop-item.invariant c.item-item.is
    c.in_ok-copied.ensures c.in_ok-push.ensures.items

pub returns : goal.returns
returns g c = c.new.ensures ∙ c.loop-item.invariant ∙ take_all _ _ c.loop-item-test.false
