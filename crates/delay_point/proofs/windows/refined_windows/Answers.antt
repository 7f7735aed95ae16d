use Rattle.std.proofs.Common.{arith, refl, ap, ◌∙◌, ◌≡◌, ◌+◌, ◌<◌, ◌++◌, ◌∷◌, [], length, slice_index, length-set}
use Rattle.response.proofs.WindowLaws.{none_too}
use Rattle.delay_point.specs.Refined.{Needs, window_at}
use Rattle.crpd_base.specs.declared.data.RefinedTask.{RefinedTask}
use Rattle.delay_point.specs.Inner.Lists.{list_by}
use Rattle.delay_point.specs.Inner.Windows.{counted_needs, counted_bounds, told_of}
use Rattle.delay_point.proofs.Listed.{counted_agree, first_more, found_more, deadlines_more}
use Rattle.delay_point.proofs.windows.refined_windows.Goals as goal

pub returns-in-None : goal.returns-in-None
returns-in-None c =
    let lists = list_by c.args.parts.now in
    let needs : Needs = counted_needs c.args.set.now (list_by c.args.parts.now)
    (slice_index c.args.longest.now) in
    let task : c.loop-i.i < length c.args.set.now.tasks =
    omega (arith, c.loop-i-test.true, c.len-i-end.ensures) in
    let same = counted_agree c.args.set.now (list_by c.args.parts.now)
    (slice_index c.args.longest.now) (c.loop-i.i + 1) c.requires.times (omega (arith, task))
    (slice_index c.loop-i.found) (window_at c.loop-i.tasks.items) c.loop-i.i (omega arith)
    c.loop-i.invariant.same in
    record {
      task = task;
      higher = c.loop-i.tasks.items;
      refined = c.loop-i.invariant.refined;
      none = λ m.
          none_too c.args.set.now (needs (slice_index c.loop-i.found) c.loop-i.i m)
          (needs (window_at c.loop-i.tasks.items) c.loop-i.i m) c.loop-i.i (same m)
          (c.in-None.ensures m);
    }

pub loop-i-preserved : goal.loop-i-preserved
loop-i-preserved c =
    let set = c.args.set.now in
    let lists = list_by c.args.parts.now in
    let needs : Needs = counted_needs set (list_by c.args.parts.now)
    (slice_index c.args.longest.now) in
    let task : c.loop-i.i < length set.tasks =
    omega (arith, c.loop-i-test.true, c.len-i-end.ensures) in
    let few : c.loop-i.i < 32 = omega (arith, task, c.requires.times.tasks) in
    let told = told_of set (list_by c.args.parts.now) c.loop-i.i c.in-Some.choice in
    let stored : c.push.new.self.items ≡ c.loop-i.tasks.items ++ told ∷ [] =
    c.in_ok-push-in-Some.ensures.items
    ∙ ap (λ (t : RefinedTask). c.loop-i.tasks.items ++ t ∷ []) c.refined_task.ensures in
    let size = c.loop-i.invariant.refined.size in
    rw stored (record {
      room = simp length-set c.loop-i.invariant.room;
      same =
          found_more c.loop-i.tasks.items told c.loop-i.i size c.loop-i.found c.loop-i.invariant.room
          few c.loop-i.invariant.same;
      in_deadline =
          deadlines_more c.loop-i.tasks.items told c.loop-i.i size set c.loop-i.found
          c.loop-i.invariant.room few c.loop-i.invariant.in_deadline
          c.in-Some.ensures.window.in_deadline;
      refined =
          first_more c.loop-i.tasks.items told c.loop-i.i size set needs
          (counted_bounds (list_by c.args.parts.now)) (slice_index c.loop-i.found)
          (counted_agree set (list_by c.args.parts.now)
          (slice_index c.args.longest.now) (c.loop-i.i + 1) c.requires.times (omega (arith, task)))
          c.loop-i.invariant.same refl c.in-Some.ensures refl c.loop-i.invariant.refined;
    })
