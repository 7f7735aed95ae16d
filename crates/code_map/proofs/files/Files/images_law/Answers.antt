use Rattle.std.proofs.Common.{List, subst, All}
use Rattle.crpd_base.specs.Images.{IsImage}
use Rattle.crpd_base.specs.declared.data.Image.{Image}
use Rattle.code_map.proofs.files.Files.images_law.Goals as goal

pub returns : goal.returns
returns c = subst (λ (is : List Image). All IsImage is) c.self.view_is c.self.invariant.images
