use Rattle.std.proofs.Common.{List, sym, subst, All}
use Rattle.std.proofs.lemmas.List.Elements.{All-push}
use Rattle.crpd_base.specs.declared.data.Image.{Image}
use Rattle.crpd_base.specs.Images.{IsImage}
use Rattle.layer_tests.proofs.loading.images_of.Goals as goal

pub loop-program-preserved : goal.loop-program-preserved
loop-program-preserved g c =
    subst (λ (images : List Image). All IsImage images) (sym c.in_ok-push.ensures.items)
    (All-push IsImage c.loop-program.images.items c.image_of.result c.loop-program.invariant
    c.image_of.ensures)
