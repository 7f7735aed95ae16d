use Rattle.std.proofs.Common.{◌≡◌, sym, ◌∙◌}
use Rattle.crpd_base.specs.Sets.{has}
use Rattle.persistent_blocks.proofs.Removed.{none_removed, remove_one, keep_one, all_removed, says}
use Rattle.persistent_blocks.proofs.payments_table.remove_each.Goals as goal
use Rattle.persistent_blocks.proofs.payments_table.remove_each.Goals.{then-is_other, else-is_other}

pub loop-s-init : goal.loop-s-init
loop-s-init c = none_removed c.args.others.now c.args.sets.now

pub loop-s-preserved : goal.loop-s-preserved
loop-s-preserved c =
    let same : c.has-is_other.result ≡ has c.args.others.now c.loop-s.s =
    says c.has-is_other.result c.args.others.now c.loop-s.s c.has-is_other.ensures in
    elim c.if-is_other.branch [
      | then-is_other w ↦
          rw w.sets-is
          (remove_one c.args.others.now c.args.sets.now c.loop-s.sets c.loop-s.s c.loop-s.invariant
          w.remove.new.self (sym same ∙ w.if-is_other.true) w.remove.ensures)
      | else-is_other w ↦
          rw w.sets-is
          (keep_one c.args.others.now c.args.sets.now c.loop-s.sets c.loop-s.s c.loop-s.invariant
          (sym same ∙ w.if-is_other.false))
    ]

pub returns : goal.returns
returns c =
    all_removed c.args.others.now c.args.sets.now c.loop-s.sets c.loop-s.s c.loop-s.invariant 512
    c.loop-s-test.false c.within_law.ensures
