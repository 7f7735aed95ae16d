use Rattle.std.proofs.Common.{List, subst, ap, All}
use Rattle.crpd_base.specs.Images.{IsImage}
use Rattle.crpd_base.specs.declared.data.Image.{Image}
use Rattle.code_map.specs.Words.{Code}
use Rattle.code_map.proofs.map.CodeMap.images_law.Goals as goal

pub returns : goal.returns
returns c =
    subst (λ (is : List Image). All IsImage is) (ap (λ (m : Code). m.images) c.self.view_is)
    c.images_law.ensures
