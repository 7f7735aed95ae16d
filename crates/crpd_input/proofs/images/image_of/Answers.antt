use Rattle.std.proofs.Common.{◌<◌, ◌∙◌, length, ap, sym, subst, Ok, arith}
use Rattle.crpd_base.specs.Images.{IsImage}
use Rattle.crpd_base.specs.declared.data.Image.{Image}
use Rattle.crpd_input.specs.Reading.{image_in}
use Rattle.crpd_input.proofs.Each.{of_earlier}
use Rattle.std.proofs.Common.{refl, rules}
use Rattle.crpd_io.proofs.Logs.{adds_none}
use Rattle.crpd_input.proofs.Asking.{asked_none}
use Rattle.crpd_input.proofs.images.image_of.Goals as goal

pub returns-in_ok-copy_image-in-Some-clause-exact :
    goal.returns-in_ok-copy_image-in-Some-clause-exact
returns-in_ok-copy_image-in-Some-clause-exact g c = λ contents told are.
    of_earlier (image_in contents) c.args.earlier.now c.args.images.now c.args.file.now
    c.in-Some.place c.index-images-place.result are
    (sym c.in-Some.ensures.is) c.in-Some.ensures.within
    ∙ ap (λ (i : Image). Ok i) (sym (c.in_ok-copy_image-in-Some.ensures ∙ c.index-images-place.is))

pub returns-in_ok-copy_image-in-Some-clause-image :
    goal.returns-in_ok-copy_image-in-Some-clause-image
returns-in_ok-copy_image-in-Some-clause-image g c =
    let within : c.in-Some.place < length c.args.images.now =
    omega (arith, c.in-Some.ensures.within, c.requires.count) in
    subst (λ (i : Image). IsImage i)
    (sym (c.in_ok-copy_image-in-Some.ensures ∙ c.index-images-place.is))
    (c.requires.images c.in-Some.place c.index-images-place.result within)

pub returns-in_err-copy_image-in-Some-clause-files :
    goal.returns-in_err-copy_image-in-Some-clause-files
returns-in_err-copy_image-in-Some-clause-files g c = (
  refl,
  omega arith,
  search rules,
  adds_none _ _ _ refl,
)

pub returns-in_ok-copy_image-in-Some-clause-files :
    goal.returns-in_ok-copy_image-in-Some-clause-files
returns-in_ok-copy_image-in-Some-clause-files g c = (
  refl,
  omega arith,
  λ e. absurd cc,
  adds_none _ _ _ refl,
)

pub returns-in_err-copy_image-in-Some-clause-asked :
    goal.returns-in_err-copy_image-in-Some-clause-asked
returns-in_err-copy_image-in-Some-clause-asked g c =
    rw (sym c.in-Some.ensures.is) (asked_none (g.F.Files.log c.args.files.now))

pub returns-in_ok-copy_image-in-Some-clause-asked :
    goal.returns-in_ok-copy_image-in-Some-clause-asked
returns-in_ok-copy_image-in-Some-clause-asked g c =
    rw (sym c.in-Some.ensures.is) (asked_none (g.F.Files.log c.args.files.now))

pub returns-in-None-clause-asked : goal.returns-in-None-clause-asked
returns-in-None-clause-asked g c = rw (sym c.in-None.ensures.is) c.load_image.ensures.asked
