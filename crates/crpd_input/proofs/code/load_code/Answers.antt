use Rattle.std.proofs.Common.{◌∙◌, List, Ok, length, ap, sym, refl}
use Rattle.crpd_base.specs.declared.data.Image.{Image}
use Rattle.crpd_base.specs.declared.data.TaskSpec.{TaskSpec}
use Rattle.code_map.specs.Reading.{code_of}
use Rattle.code_map.specs.declared.error.MapError.TheVariants.{Memory}
use Rattle.crpd_input.specs.Reading.{images_in, map_halt}
use Rattle.crpd_input.proofs.Bounds.{code_bounded}
use Rattle.crpd_input.proofs.OwnImages.{images_count}
use Rattle.crpd_input.proofs.Readers.{read, refused, no_fault}
use Rattle.crpd_input.specs.Steps.{Stops, or_refused}
use Rattle.crpd_input.proofs.Stopping.{ends_first}
use Rattle.std.proofs.Common.{[], subst}
use Rattle.crpd_input.specs.Asking.{new_files, task_files}
use Rattle.crpd_input.proofs.Asking.{asks_end, asks_same, asks_stop}
use Rattle.crpd_input.proofs.code.load_code.Goals as goal

pub returns-in-Ok-clause-input : goal.returns-in-Ok-clause-input
returns-in-Ok-clause-input g c =
    let set = c.args.set.now in
    let count = images_count set c.into_vec.result.items c.in-Ok.code _ c.in-Ok.ensures
    (ap (λ (is : List Image). length is) c.into_vec.ensures ∙ c.in_ok-images.ensures.count
    ∙ ap (λ (ts : List TaskSpec). length ts) c.as_slice.ensures) in
    record {
      ranges = c.requires;
      images = count;
      plans = c.plans_law.ensures ∙ count;
      bounded = code_bounded set c.into_vec.result.items c.in-Ok.code c.requires.each c.in-Ok.ensures;
      words = λ a w at. (c.words_law.ensures a w at).0;
    }

pub returns-in-Ok-clause-exact : goal.returns-in-Ok-clause-exact
returns-in-Ok-clause-exact g c = λ contents told.
    read (map_halt c.args.name.now c.args.set.now) (code_of c.args.set.now)
    (images_in contents c.args.set.now.tasks)
    c.into_vec.result.items c.in-Ok.code
    (ap (images_in contents) (sym c.as_slice.ensures)
    ∙ c.in_ok-images.ensures.exact contents told
    ∙ ap (λ (is : List Image). Ok is) (sym c.into_vec.ensures))
    c.in-Ok.ensures

pub returns-in-Err-clause-exact : goal.returns-in-Err-clause-exact
returns-in-Err-clause-exact g c = λ contents told.
    refused (map_halt c.args.name.now c.args.set.now) (code_of c.args.set.now)
    (images_in contents c.args.set.now.tasks)
    c.into_vec.result.items Memory c.in-Err.error c.map_halt.result
    (ap (images_in contents) (sym c.as_slice.ensures)
    ∙ c.in_ok-images.ensures.exact contents told
    ∙ ap (λ (is : List Image). Ok is) (sym c.into_vec.ensures))
    refl c.in-Err.ensures c.map_halt.ensures

pub returns-in-Err-clause-files : goal.returns-in-Err-clause-files
returns-in-Err-clause-files g c = (
  c.in_ok-images.ensures.files.0,
  c.in_ok-images.ensures.files.1,
  λ e. absurd (no_fault (map_halt c.args.name.now c.args.set.now c.in-Err.error) c.map_halt.result
      c.map_halt.ensures e),
  c.in_ok-images.ensures.files.3,
)

pub new-requires-clause-one : goal.new-requires-clause-one
new-requires-clause-one g c =
    ap (λ (is : List Image). length is) c.into_vec.ensures ∙ c.in_ok-images.ensures.count
    ∙ ap (λ (ts : List TaskSpec). length ts) c.as_slice.ensures

pub new-requires-clause-images : goal.new-requires-clause-images
new-requires-clause-images g c = rw c.into_vec.ensures c.in_ok-images.ensures.images

pub returns-in_err-images-clause-exact : goal.returns-in_err-images-clause-exact
returns-in_err-images-clause-exact g c = λ contents told.
    let halt = c.in_err-images.field-0.0 in
    ends_first (images_in contents c.args.set.now.tasks)
    (λ images. or_refused (map_halt c.args.name.now c.args.set.now)
    (code_of c.args.set.now images)) halt c.from_residual.result c.from_residual.ensures.1
    (subst (λ (ts : List TaskSpec). Stops (images_in contents ts) halt) c.as_slice.ensures
    (c.in_err-images.ensures.exact contents told))

pub returns-in-Ok-clause-asks : goal.returns-in-Ok-clause-asks
returns-in-Ok-clause-asks g c =
    asks_same (λ contents. task_files c.args.set.now)
    (asks_end c.in_ok-images.images c.in_ok-images.ensures.asks _)
    (λ contents since. ap (new_files []) (sym c.as_slice.ensures))

pub returns-in-Err-clause-asks : goal.returns-in-Err-clause-asks
returns-in-Err-clause-asks g c =
    asks_same (λ contents. task_files c.args.set.now)
    (asks_end c.in_ok-images.images c.in_ok-images.ensures.asks _)
    (λ contents since. ap (new_files []) (sym c.as_slice.ensures))

pub returns-in_err-images-clause-asks : goal.returns-in_err-images-clause-asks
returns-in_err-images-clause-asks g c =
    asks_same (λ contents. task_files c.args.set.now)
    (asks_stop c.in_err-images.field-0.0 _ c.in_err-images.ensures.asks c.from_residual.result
    c.from_residual.ensures.1)
    (λ contents since. ap (new_files []) (sym c.as_slice.ensures))
