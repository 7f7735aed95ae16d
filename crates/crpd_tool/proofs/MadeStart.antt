-- The start of a generated script has a valid data memory.
use Rattle.std.proofs.Common.{◌≡◌, ℕ, List, [], ◌∷◌, map, Bool, true, false, Some, None, Ok, Err, ap}
use Rattle.std.proofs.Common.{sym, subst, length}
use Rattle.std.specs.Prelude.{All, Option, nat_lt, if◌then◌else◌}
use Rattle.std.specs.List.{zip}
use Rattle.std.specs.Str.{bytes_eq}
use Rattle.std.proofs.lemmas.List.Elements.{All-head, All-tail}
use Rattle.crpd_base.specs.Images.{IsImage}
use Rattle.crpd_base.specs.declared.data.Image.{Image}
use Rattle.crpd_base.specs.declared.data.TaskSpec.{TaskSpec}
use Rattle.elf_reader.specs.Reading as elf
use Rattle.code_map.specs.Reading.{code_of}
use Rattle.code_map.specs.Words.{Code}
use Rattle.rv_core.specs.Memory.{IsMemory}
use Rattle.preempt_machine.specs.Starts.{start_memory}
use Rattle.preempt_machine.proofs.StartMemory.{HasBytes, start_kept}
use Rattle.crpd_io.specs.Outside.{Contents}
use Rattle.crpd_io.specs.Whole.{FileRefusal, file_within}
use Rattle.gen_tasks.specs.GeneratedInput.{made}
use Rattle.gen_tasks.proofs.FileBytes.{MeansBytes, made_files_mean}
use Rattle.crpd_input.specs.Reading.{code_in, elf_halt, image_in, images_in, map_halt}
use Rattle.crpd_input.specs.Steps.{bytes_in, file_bytes, or_refused, refused_file}
use Rattle.crpd_input.proofs.Each.{all_given}
use Rattle.crpd_input.proofs.Given.{image_good, read_ok, step_ok}
use Rattle.crpd_input.proofs.Plans.{code_parts}
use Rattle.crpd_tool.specs.Generate.{contents_of_files, made_name, named_files}

-- the bytes of a file in memory
held_head : (P : List ℕ → Type 0) (b : Bool) (file bytes : List ℕ) (rest : Option (List ℕ)) → P file
    → (rest ≡ Some bytes → P bytes) → (if b then Some file else rest) ≡ Some bytes → P bytes
held_head P true file bytes rest here later e = let same : file ≡ bytes = cc in subst P same here
held_head P false file bytes rest here later e = later e

held_means : (P : List ℕ → Type 0) (names files : List (List ℕ)) (name bytes : List ℕ) → All P files
    → contents_of_files (zip names files) name ≡ Some bytes → P bytes
held_means P [] files name bytes all e = absurd cc
held_means P (x ∷ names) [] name bytes all e = absurd cc
held_means P (x ∷ names) (file ∷ files) name bytes all e =
    held_head P (bytes_eq name x) file bytes (contents_of_files (zip names files) name)
    (All-head P file files all) (held_means P names files name bytes (All-tail P file files all)) e

within_some : (most : ℕ) (name : List ℕ) (o : Option (List ℕ)) (bytes : List ℕ)
    → refused_file name (file_within most o) ≡ Ok bytes → o ≡ Some bytes
within_some most name None bytes e = absurd cc
within_some most name (Some file) bytes e = here (nat_lt most (length file)) e
  where
    here : (b : Bool) → refused_file name (if b then Err FileRefusal.too_long else Ok file)
        ≡ Ok bytes → Some file ≡ Some bytes
    here true is = absurd cc
    here false is = let same : file ≡ bytes = cc in ap Some same

module _ (n : ℕ) where
  abbrev files_of : Contents
  files_of = contents_of_files (named_files (made n).set (made n).files)

  image_means : (name : List ℕ) (image : Image) → image_in files_of name ≡ Ok image → HasBytes image
  image_means name image e =
      let bytes = step_ok (bytes_in file_bytes files_of name)
      (λ bytes. or_refused (elf_halt name) (elf.reading bytes)) image e in
      let found : files_of name ≡ Some bytes.0 =
      within_some 16777216 name (files_of name) bytes.0 bytes.1 in
      held_means MeansBytes (map (λ (t : TaskSpec). t.file) (made n).set.tasks) (made n).files name
      bytes.0 (made_files_mean n) found image
      (read_ok (elf_halt name) (elf.reading bytes.0) image bytes.2)

  -- so the start has a valid data memory
  pub made_start : (code : Code) → code_in files_of made_name (made n).set ≡ Ok code
      → IsMemory (start_memory code.images)
  made_start code e =
      let tasks = (made n).set.tasks in
      let images = step_ok (images_in files_of tasks)
      (λ images. or_refused (map_halt made_name (made n).set) (code_of (made n).set images)) code
      e in
      let same : code.images ≡ images.0 =
      (code_parts (made n).set images.0 code
      (read_ok (map_halt made_name (made n).set) (code_of (made n).set images.0) code
      images.2)).0 in
      subst (λ is. IsMemory (start_memory is)) (sym same)
      (start_kept images.0
      (all_given (λ (t : TaskSpec). image_in files_of t.file) IsImage
      (λ t image is. image_good files_of t.file image is) tasks images.0 images.1)
      (all_given (λ (t : TaskSpec). image_in files_of t.file) HasBytes
      (λ t image is. image_means t.file image is) tasks images.0 images.1))
