use Rattle.std.proofs.Common.{◌≡◌, ◌≤◌, length, take, Ok, All, []}
use Rattle.crpd_base.specs.Images.{IsImage}
use Rattle.crpd_io.specs.Asked.{Asked}
use Rattle.crpd_io.specs.Outside.{AddsAnswers}
use Rattle.crpd_input.specs.Asking.{new_files}
use Rattle.crpd_input.specs.Steps.{HoldsFor}
use Rattle.crpd_input.specs.Reading.{images_in}
use Rattle.crpd_input.proofs.images.load_images.Given as goal

abbrev pub invariant-loop-i : goal.invariant-loop-i
invariant-loop-i g l = record {
  same : g.F.Files.contents l.files ≡ g.F.Files.contents l.initial.files;
  later : g.F.Files.faults l.initial.files ≤ g.F.Files.faults l.files;
  answers : AddsAnswers (g.F.Files.contents l.initial.files) (g.F.Files.log l.initial.files)
      (g.F.Files.log l.files);
  are : HoldsFor (g.F.Files.log l.initial.files) (g.F.Files.log l.files)
      (λ c. images_in c (take l.i l.tasks) ≡ Ok l.images.items);
  asked : Asked (g.F.Files.log l.initial.files) (g.F.Files.log l.files)
      (new_files [] (take l.i l.tasks));
  count : length l.images.items ≡ l.i;
  images : All IsImage l.images.items;
}
