use Rattle.std.proofs.Common.{◌≡◌, ◌<◌, ℕ, length, Option, Some, sym, ◌∙◌, ap, inl, inr}
use Rattle.std.proofs.Common.{refl, List, get_or, arith, rules}
use Rattle.std.proofs.lemmas.Bool.{cases_lt}
use Rattle.std.proofs.lemmas.Grind.{common_steps}
use Rattle.std.proofs.lemmas.List.{get_or_default}
use Rattle.crpd_base.proofs.Options.{some_injective}
use Rattle.preempt_machine.specs.declared.queue.Due.{Due}
use Rattle.preempt_machine.specs.Inner.Queue.{due_at, position_at}
use Rattle.preempt_machine.proofs.queue.Queue.first.Goals as goal
use Rattle.preempt_machine.proofs.queue.Queue.first.Goals.{in_default-via-in-None-1}
use Rattle.preempt_machine.proofs.queue.Queue.first.Goals.{in_default-via-in-Some+else-at-len}
use Rattle.preempt_machine.proofs.queue.Queue.first.Goals.{in_default-via-in-Some+then-at-len+else-index-now}

-- the position of a task's head, as the loop reads it
head_is : (heads read : List (Option ℕ)) (k u : ℕ) (found : Option ℕ) → read ≡ heads → k ≡ u
    → position_at read k ≡ found → position_at heads u ≡ found
head_is heads read k u found e f is =
    sym (ap (λ (hs : List (Option ℕ)). position_at hs u) e) ∙ ap (position_at read) (sym f) ∙ is

due_is : (due : List Due) (p : ℕ) (x : Due) → p < length due → x ≡ get_or due p x → x ≡ due_at due p
due_is due p x below is =
    is ∙ get_or_default due p x (record { release = 0; place = 0 }) below

pub returns-in-loop-head : goal.returns-in-loop-head
returns-in-loop-head c =
    let due = c.args.self.now.due.items in
    let heads = c.args.self.now.heads.items in
    let at = c.in-Some.at in
    let inside : at < length due = omega (arith, c.if-at-len.true, c.len.ensures) in
    let release = ap (λ (x : Due). x.release)
    (due_is due at c.index.result.now inside c.index.ensures) in
    record {
      task = c.loop-head.head-index;
      at = at;
      below =
          omega (arith, c.loop-head-test.true, ap length c.deref-head-items.ensures.value);
      come = record {
        head =
            head_is heads c.deref-head-items.result.now c.loop-head.head-index
            c.loop-head.head-index (Some at) c.deref-head-items.ensures.value refl c.in-Some.is;
        inside = inside;
        come = omega (arith, release, c.if-index-now.true);
      };
      before = λ u p lt r. c.loop-head.invariant u p lt r;
      is =
          ap (λ (x : Due). x.place)
          (due_is due at c.index-in-loop-head.result.now inside c.index-in-loop-head.ensures);
    }

pub returns : goal.returns
returns c = search rules

pub loop-head-preserved : goal.loop-head-preserved
loop-head-preserved c u p lt r =
    let due = c.args.self.now.due.items in
    let heads = c.args.self.now.heads.items in
    let read = c.deref-head-items.result.now in
    elim (cases_lt u c.loop-head.head-index) [
      | inl before ↦ c.loop-head.invariant u p before r
      | inr from ↦
          let here : c.loop-head.head-index ≡ u = omega arith in
          let found : (o : Option ℕ) → position_at read c.loop-head.head-index ≡ o
          → o ≡ Some p = λ o is.
          sym (head_is heads read c.loop-head.head-index u o c.deref-head-items.ensures.value here
          is) ∙ r.head in
          elim c.in_default.branch [
            | in_default-via-in-None-1 w ↦ let is = found _ refl in grind (arith, common_steps)
            | in_default-via-in-Some+else-at-len w ↦
                let same : w.in-Some.at ≡ p =
                some_injective (found (Some w.in-Some.at) w.in-Some.is) in
                omega (arith, same, r.inside, w.if-at-len.false, w.len.ensures)
            | in_default-via-in-Some+then-at-len+else-index-now w ↦
                let at = w.in-Some.at in
                let same : at ≡ p = some_injective (found (Some at) w.in-Some.is) in
                let inside : at < length due = omega (arith, w.if-at-len.true, w.len.ensures) in
                let release = ap (λ (x : Due). x.release)
                (due_is due at w.index.result.now inside w.index.ensures) in
                let there = ap (λ n. (due_at due n).release) same in
                omega (arith, release, there, r.come, w.if-index-now.false)
          ]
    ]
