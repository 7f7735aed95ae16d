use Rattle.std.proofs.Common.{◌∙◌, [], ◌∷◌, List, length, refl, ap, sym, Ok, arith, length-append}
use Rattle.crpd_base.specs.Images.{IsImage}
use Rattle.crpd_base.specs.declared.data.Image.{Image}
use Rattle.crpd_base.specs.declared.data.TaskSpec.{TaskSpec}
use Rattle.crpd_io.proofs.Logs.{adds_none, adds_both, earlier, later}
use Rattle.crpd_input.specs.Reading.{image_in, images_in}
use Rattle.std.proofs.lemmas.List.Elements.{All-push}
use Rattle.crpd_input.proofs.Each.{all_read, one_more, one_refused, start, stops_whole}
use Rattle.std.proofs.Common.{rules}
use Rattle.std.proofs.Common.{◌+◌, ℕ, take, drop}
use Rattle.std.proofs.lemmas.List.{take_all}
use Rattle.crpd_input.specs.Asking.{new_files}
use Rattle.crpd_input.specs.declared.halt.Halt.{Halt}
use Rattle.crpd_input.proofs.Asking.{asked_next, asked_none, asks_names, asks_some, files_after}
use Rattle.crpd_input.proofs.Stopping.{same_stop}
use Rattle.crpd_input.proofs.images.load_images.Goals as goal

pub loop-i-init : goal.loop-i-init
loop-i-init g c = record {
  same = refl;
  later = omega arith;
  answers = adds_none _ _ _ refl;
  asked = asked_none (g.F.Files.log c.args.files.now);
  are = λ contents told.
      start (λ (t : TaskSpec). image_in contents t.file)
      ∙ ap (λ (is : List Image). Ok is) (sym c.new-images.ensures.items);
  count = ap (λ (is : List Image). length is) c.new-images.ensures.items;
  images = λ k d lt.
      absurd (omega (arith, lt, ap (λ (is : List Image). length is) c.new-images.ensures.items));
}

pub image_of-requires-clause-images : goal.image_of-requires-clause-images
image_of-requires-clause-images g c = rw c.deref.ensures.value c.loop-i.invariant.images

pub returns-in-Err-clause-exact : goal.returns-in-Err-clause-exact
returns-in-Err-clause-exact g c = λ contents told.
    let one = c.loop-i.invariant.answers in
    let two = c.in-Err.ensures.files.3 in
    let are = c.loop-i.invariant.are contents (earlier one two told) in
    stops_whole (image_in contents c.as_str.result.now) (images_in contents c.args.tasks.now)
    c.in-Err.halt
    (λ r e. one_refused (λ (t : TaskSpec). image_in contents t.file) c.args.tasks.now c.loop-i.i
    c.index-tasks-i.result c.loop-i.images.items r c.loop-i-test.true c.index-tasks-i.is
    are (ap (image_in contents) (sym c.as_str.ensures) ∙ e))
    (c.in-Err.ensures.exact contents (later one two told)
    (are ∙ ap (λ (is : List Image). Ok is) (sym c.deref.ensures.value)))

pub loop-i-preserved : goal.loop-i-preserved
loop-i-preserved g c = record {
  same = c.in-Ok.ensures.files.0 ∙ c.loop-i.invariant.same;
  later = omega (arith, c.in-Ok.ensures.files.1, c.loop-i.invariant.later);
  answers = adds_both c.loop-i.invariant.answers c.in-Ok.ensures.files.3 c.loop-i.invariant.same;
  are = λ contents told.
      let one = c.loop-i.invariant.answers in
      let two = c.in-Ok.ensures.files.3 in
      let are = c.loop-i.invariant.are contents (earlier one two told) in
      one_more (λ (t : TaskSpec). image_in contents t.file) c.args.tasks.now c.loop-i.i
      c.index-tasks-i.result c.loop-i.images.items c.in-Ok.image c.loop-i-test.true
      c.index-tasks-i.is
      are
      (ap (image_in contents) (sym c.as_str.ensures)
      ∙ c.in-Ok.ensures.exact contents (later one two told)
      (are ∙ ap (λ (is : List Image). Ok is) (sym c.deref.ensures.value)))
      ∙ ap (λ (is : List Image). Ok is) (sym c.in_ok-push.ensures.items);
  asked =
      asked_next c.args.tasks.now c.loop-i.i c.index-tasks-i.result c.as_str.result.now
      c.loop-i-test.true c.index-tasks-i.is c.as_str.ensures c.loop-i.invariant.asked
      c.in-Ok.ensures.asked;
  count =
      omega (
        arith,
        ap (λ (is : List Image). length is) c.in_ok-push.ensures.items,
        length-append c.loop-i.images.items (c.in-Ok.image ∷ []),
        c.loop-i.invariant.count,
      );
  images =
      rw c.in_ok-push.ensures.items
      (All-push IsImage c.loop-i.images.items c.in-Ok.image c.loop-i.invariant.images
      c.in-Ok.ensures.image);
}

pub returns-clause-exact : goal.returns-clause-exact
returns-clause-exact g c = λ contents told.
    all_read (λ (t : TaskSpec). image_in contents t.file) c.args.tasks.now c.loop-i.i
    c.loop-i.images.items c.loop-i-test.false (c.loop-i.invariant.are contents told)
    ∙ ap (λ (is : List Image). Ok is) (sym c.new.ensures)

pub returns-clause-images : goal.returns-clause-images
returns-clause-images g c = rw c.new.ensures c.loop-i.invariant.images

pub returns-in-Err-clause-files : goal.returns-in-Err-clause-files
returns-in-Err-clause-files g c = (
  c.in-Err.ensures.files.0 ∙ c.loop-i.invariant.same,
  omega (arith, c.in-Err.ensures.files.1, c.loop-i.invariant.later),
  λ e. omega (
    arith,
    c.in-Err.ensures.files.2 (same_stop c.in-Err.halt e),
    c.loop-i.invariant.later,
  ),
  adds_both c.loop-i.invariant.answers c.in-Err.ensures.files.3 c.loop-i.invariant.same,
)

pub returns-in_err-push-clause-files : goal.returns-in_err-push-clause-files
returns-in_err-push-clause-files g c = (
  c.in-Ok.ensures.files.0 ∙ c.loop-i.invariant.same,
  omega (arith, c.in-Ok.ensures.files.1, c.loop-i.invariant.later),
  search rules,
  adds_both c.loop-i.invariant.answers c.in-Ok.ensures.files.3 c.loop-i.invariant.same,
)

pub returns-in-Err-clause-asks : goal.returns-in-Err-clause-asks
returns-in-Err-clause-asks g c =
    let tasks = c.args.tasks.now in
    let i : ℕ = c.loop-i.i + 1 in
    asks_some
    (asked_next tasks c.loop-i.i c.index-tasks-i.result c.as_str.result.now c.loop-i-test.true
    c.index-tasks-i.is c.as_str.ensures c.loop-i.invariant.asked c.in-Err.ensures.asked)
    (λ contents. new_files [] tasks) (λ contents. new_files (take i tasks) (drop i tasks))
    (λ (h : Halt). Unit {0}) _ tt (λ contents since. files_after tasks i)

pub returns-in_err-push-clause-asks : goal.returns-in_err-push-clause-asks
returns-in_err-push-clause-asks g c =
    let tasks = c.args.tasks.now in
    let i : ℕ = c.loop-i.i + 1 in
    asks_some
    (asked_next tasks c.loop-i.i c.index-tasks-i.result c.as_str.result.now c.loop-i-test.true
    c.index-tasks-i.is c.as_str.ensures c.loop-i.invariant.asked c.in-Ok.ensures.asked)
    (λ contents. new_files [] tasks) (λ contents. new_files (take i tasks) (drop i tasks))
    _ c.from_residual.result c.from_residual.ensures.1 (λ contents since. files_after tasks i)

pub returns-clause-asks : goal.returns-clause-asks
returns-clause-asks g c =
    asks_names c.loop-i.invariant.asked (λ contents. new_files [] c.args.tasks.now) _
    (λ contents since. ap (new_files []) (sym (take_all c.loop-i.i c.args.tasks.now c.loop-i-test.false)))
