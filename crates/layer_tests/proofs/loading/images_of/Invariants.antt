use Rattle.std.specs.Prelude.{All}
use Rattle.crpd_base.specs.Images.{IsImage}
use Rattle.layer_tests.proofs.loading.images_of.Given as goal

abbrev pub invariant-loop-program : goal.invariant-loop-program
invariant-loop-program g l = All IsImage l.images.items
