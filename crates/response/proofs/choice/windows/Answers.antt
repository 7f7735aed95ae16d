use Rattle.std.proofs.Common.{arith, ◌≡◌, ◌+◌, ◌++◌, ◌∷◌, [], ◌∙◌, ap, length, length-set}
use Rattle.std.proofs.Common.{length-append, not, ◌<◌, ℕ, slice_index, if◌then◌else◌}
use Rattle.std.proofs.lemmas.Grind.{common_steps}
use Rattle.crpd_base.specs.declared.data.TaskSet.{TaskSet}
use Rattle.crpd_base.specs.declared.data.Method.TheVariants.{Ucb, Ecb}
use Rattle.delay_count.specs.Gamma.{part_at}
use Rattle.delay_count.specs.Demand.{demand}
use Rattle.response.specs.Windows.{Demand, IsFirstWithoutWindow, chosen_window}
use Rattle.response.proofs.WindowLaws.{chosen_none, chosen_some, none_too, smaller_is_window}
use Rattle.response.proofs.Choices.{choices_more, found_more, deadlines_more}
use Rattle.response.proofs.Least.{looks_above}
use Rattle.response.proofs.choice.windows.Goals as goal

first_at : (set : TaskSet) (demand : Demand) (i n : ℕ) → n ≡ i
    → IsFirstWithoutWindow set demand i → IsFirstWithoutWindow set demand n
first_at set demand i n is first = rw is first

pub window-ucb-requires-clause-windows : goal.window-ucb-requires-clause-windows
window-ucb-requires-clause-windows c = grind (arith, common_steps)

pub window-ecb-requires-clause-windows : goal.window-ecb-requires-clause-windows
window-ecb-requires-clause-windows c = grind (arith, common_steps)

pub returns-in-None : goal.returns-in-None
returns-in-None c =
    let none = chosen_none c.args.set.now
    (demand c.args.set.now (part_at c.args.parts.now) (slice_index c.args.longest.now)
    (slice_index c.loop-i.found) c.loop-i.i) c.loop-i.i c.window-ucb.result c.window-ecb.result
    c.smaller.result c.window-ucb.ensures c.window-ecb.ensures c.smaller.ensures c.in-None.is in
    let task : c.loop-i.i < length c.args.set.now.tasks =
    omega (arith, c.loop-i-test.true, c.len-i-end.ensures) in
    let same = looks_above c.args.set.now (part_at c.args.parts.now)
    (slice_index c.args.longest.now) (c.loop-i.i + 1) c.requires.times (omega (arith, task))
    (slice_index c.loop-i.found) (chosen_window c.loop-i.choices.items) c.loop-i.i
    (omega arith) c.loop-i.invariant.same in
    first_at c.args.set.now
    (demand c.args.set.now (part_at c.args.parts.now) (slice_index c.args.longest.now)) c.loop-i.i _
    (omega arith) (record {
      task = task;
      higher = c.loop-i.choices.items;
      size = c.loop-i.invariant.size;
      each = c.loop-i.invariant.each;
      no_ucb =
          none_too c.args.set.now
          (demand c.args.set.now (part_at c.args.parts.now) (slice_index c.args.longest.now)
          (slice_index c.loop-i.found) c.loop-i.i Ucb)
          (demand c.args.set.now (part_at c.args.parts.now) (slice_index c.args.longest.now)
          (chosen_window c.loop-i.choices.items) c.loop-i.i Ucb) c.loop-i.i (same Ucb) none.0;
      no_ecb =
          none_too c.args.set.now
          (demand c.args.set.now (part_at c.args.parts.now) (slice_index c.args.longest.now)
          (slice_index c.loop-i.found) c.loop-i.i Ecb)
          (demand c.args.set.now (part_at c.args.parts.now) (slice_index c.args.longest.now)
          (chosen_window c.loop-i.choices.items) c.loop-i.i Ecb) c.loop-i.i (same Ecb) none.1;
    })

pub loop-i-preserved : goal.loop-i-preserved
loop-i-preserved c =
    let task : c.loop-i.i < length c.args.set.now.tasks =
    omega (arith, c.loop-i-test.true, c.len-i-end.ensures) in
    let few : c.loop-i.i < 32 = omega (arith, task, c.requires.times.tasks) in
    let stored : c.push.new.self.items ≡ c.loop-i.choices.items ++ c.in-Some.choice ∷ [] =
    c.push.ensures.items ∙ ap (λ b. if b then c.loop-i.choices.items ++ c.in-Some.choice ∷ []
    else c.loop-i.choices.items) (c.is_err.ensures.negation ∙ ap not c.if-is_err.false) in
    let here = chosen_some c.args.set.now
    (demand c.args.set.now (part_at c.args.parts.now) (slice_index c.args.longest.now)
    (slice_index c.loop-i.found) c.loop-i.i) c.loop-i.i c.window-ucb.result c.window-ecb.result
    c.smaller.result c.in-Some.choice c.window-ucb.ensures c.window-ecb.ensures c.smaller.ensures
    c.in-Some.is in
    let window = smaller_is_window c.args.set.now
    (demand c.args.set.now (part_at c.args.parts.now) (slice_index c.args.longest.now)
    (slice_index c.loop-i.found) c.loop-i.i) c.loop-i.i c.in-Some.choice.method
    c.in-Some.choice.window here in
    rw stored (record {
      size = simp length-append (omega (arith, c.loop-i.invariant.size));
      room = simp length-set c.loop-i.invariant.room;
      same =
          found_more c.loop-i.choices.items c.in-Some.choice c.loop-i.i c.loop-i.invariant.size
          c.loop-i.found c.loop-i.invariant.room few c.loop-i.invariant.same;
      in_deadline =
          deadlines_more c.loop-i.choices.items c.in-Some.choice c.loop-i.i c.loop-i.invariant.size
          c.args.set.now c.loop-i.found c.loop-i.invariant.room few c.loop-i.invariant.in_deadline
          window.in_deadline;
      each =
          choices_more c.loop-i.choices.items c.in-Some.choice c.loop-i.i c.loop-i.invariant.size
          c.args.set.now
          (demand c.args.set.now (part_at c.args.parts.now) (slice_index c.args.longest.now))
          (slice_index c.loop-i.found)
          (looks_above c.args.set.now (part_at c.args.parts.now) (slice_index c.args.longest.now)
          (c.loop-i.i + 1) c.requires.times (omega (arith, task))) c.loop-i.invariant.same
          c.loop-i.invariant.each here;
    })
