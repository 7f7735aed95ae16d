-- The results of the steps that read: a set in its ranges, and code of images that fit in memory.
use Rattle.std.proofs.Common.{◌≡◌, ℕ, List, Ok, Err, refl, subst, Result}
use Rattle.crpd_base.specs.declared.data.Image.{Image}
use Rattle.crpd_base.specs.declared.data.TaskSet.{TaskSet}
use Rattle.crpd_base.specs.declared.data.TaskSpec.{TaskSpec}
use Rattle.crpd_base.specs.Images.{IsImage}
use Rattle.crpd_base.specs.Ranges.{IsTaskSet}
use Rattle.code_map.specs.Reading.{code_of}
use Rattle.code_map.specs.Words.{Code}
use Rattle.elf_reader.specs.Reading as elf
use Rattle.elf_reader.proofs.Law.{read_image}
use Rattle.set_reader.specs.Reading as set
use Rattle.set_reader.proofs.Ranged.{found_ranged}
use Rattle.crpd_io.specs.Outside.{Contents}
use Rattle.task_shapes.specs.Inputs.{IsInput, SetWithCode}
use Rattle.crpd_input.specs.declared.halt.Halt.{Halt}
use Rattle.crpd_input.specs.Steps.{and_then, bytes_in, file_bytes, or_refused}
use Rattle.crpd_input.specs.Reading.{code_in, elf_halt, image_in, images_in, input_in, map_halt}
use Rattle.crpd_input.specs.Reading.{set_in, set_halt}
use Rattle.crpd_input.proofs.Bounds.{code_bounded}
use Rattle.crpd_input.proofs.Each.{all_given, each_count}
use Rattle.crpd_input.proofs.OwnImages.{images_count}
use Rattle.crpd_input.proofs.Plans.{code_ends, plan_per_task}

-- the value with which a step continued
pub step_ok : {A B : Type 0} (r : Result A Halt) (next : A → Result B Halt) (y : B)
    → and_then r next ≡ Ok y → (x : A) × (r ≡ Ok x) × (next x ≡ Ok y)
step_ok (Ok x) next y e = (x, refl, e)
step_ok (Err refusal) next y e = absurd cc

pub read_ok : {A E : Type 0} (refusal_of : E → Halt) (r : Result A E) (x : A)
    → or_refused refusal_of r ≡ Ok x → r ≡ Ok x
read_ok refusal_of (Ok y) x e = cc
read_ok refusal_of (Err r) x e = absurd cc

set_ranged : (contents : Contents) (name : List ℕ) (s : TaskSet) → set_in contents name ≡ Ok s
    → IsTaskSet s
set_ranged contents name s e =
    let bytes = step_ok (bytes_in file_bytes contents name)
    (λ bytes. or_refused (set_halt name) (set.reading bytes)) s e in
    found_ranged bytes.0 (Ok s) (read_ok (set_halt name) (set.reading bytes.0) s bytes.2)

pub image_good : (contents : Contents) (name : List ℕ) (image : Image)
    → image_in contents name ≡ Ok image → IsImage image
image_good contents name image e =
    let bytes = step_ok (bytes_in file_bytes contents name)
    (λ bytes. or_refused (elf_halt name) (elf.reading bytes)) image e in
    read_image bytes.0 image (read_ok (elf_halt name) (elf.reading bytes.0) image bytes.2)

-- the code of a set in its ranges
pub code_good : (contents : Contents) (name : List ℕ) (s : TaskSet) (c : Code) → IsTaskSet s
    → code_in contents name s ≡ Ok c → IsInput (record { set = s; code = c })
code_good contents name s c ranges e =
    let images = step_ok (images_in contents s.tasks)
    (λ images. or_refused (map_halt name s) (code_of s images)) c e in
    let is = read_ok (map_halt name s) (code_of s images.0) c images.2 in
    let step = λ (t : TaskSpec). image_in contents t.file in
    let count = each_count step s.tasks images.0 images.1 in
    record {
      ranges = ranges;
      images = images_count s images.0 c _ is count;
      plans = plan_per_task s images.0 c count is;
      bounded = code_bounded s images.0 c ranges.each is;
      words =
          code_ends s images.0 c
          (all_given step IsImage (λ t image at. image_good contents t.file image at) s.tasks
          images.0 images.1) is;
    }

pub input_good : (contents : Contents) (name : List ℕ) (input : SetWithCode)
    → input_in contents name ≡ Ok input → IsInput input
input_good contents name input e =
    let s = step_ok (set_in contents name) _ input e in
    let c = step_ok (code_in contents name s.0) (λ code. Ok (record { set = s.0; code = code }))
    input s.2 in
    let is : record { set = s.0; code = c.0 } ≡ input = cc in
    subst IsInput is (code_good contents name s.0 c.0 (set_ranged contents name s.0 s.1) c.1)
