use Rattle.std.proofs.Common.{subst, sym, arith}
use Rattle.crpd_base.specs.Images.{IsImage}
use Rattle.code_map.proofs.Indexed.{indexes_more}
use Rattle.code_map.proofs.files.own_indexes.Goals as goal

pub own_index-requires : goal.own_index-requires
own_index-requires c =
    subst IsImage (sym c.image-item.is)
    (c.requires c.loop-image.image-index c.image-item.result c.loop-image-test.true)

pub loop-image-preserved : goal.loop-image-preserved
loop-image-preserved c = (
  grind arith,
  rw c.in_ok-push.ensures.items
      (indexes_more c.loop-image.own.items c.args.images.now c.loop-image.image-index
      c.in_ok-own_index.field-0 c.image-item.result c.loop-image.invariant.0 c.loop-image-test.true
      c.image-item.is c.in_ok-own_index.ensures c.loop-image.invariant.1),
)
