use Rattle.std.proofs.Common.{◌≡◌, ℕ, ◌<◌, ◌≤◌, List, length, refl, ◌∙◌, ap, subst, inl, inr, arith}
use Rattle.std.proofs.Common.{get_or}
use Rattle.std.proofs.lemmas.Bool.{cases_lt}
use Rattle.std.proofs.lemmas.List.{get_or_default}
use Rattle.preempt_machine.specs.declared.queue.Due.{Due}
use Rattle.preempt_machine.specs.Inner.Queue.{due_at, due_release, due_place}
use Rattle.preempt_machine.proofs.ReleaseOrder.{opened_more}
use Rattle.preempt_machine.proofs.queue.Queue.release.Goals as goal

item_is : (ds due : List Due) (at : ℕ) (x : Due) → ds ≡ due → at < length due
    → x ≡ get_or ds at x → x ≡ due_at due at
item_is ds due at x e inside read =
    subst (λ (zs : List Due). x ≡ get_or zs at x) e read
    ∙ get_or_default due at x (record { release = 0; place = 0 }) inside

pub loop-self-preserved : goal.loop-self-preserved
loop-self-preserved c =
    let due = c.args.self.now.due.items in
    let from = c.args.self.now.released in
    let at = c.loop-self.self.released in
    let h = c.loop-self.invariant in
    let inside : at < length due = subst (λ ds. at < length ds) h.due
    (omega (arith, c.loop-self-test.true, c.len.ensures)) in
    let item = item_is c.loop-self.self.due.items due at c.index-in-loop-self.result.now h.due
    inside c.index-in-loop-self.ensures in
    let first = item_is c.loop-self.self.due.items due at c.index.result.now h.due inside
    c.index.ensures in
    let place : c.index-in-loop-self.result.now.place ≡ due_place due at =
    ap (λ (x : Due). x.place) item in
    let release : c.index.result.now.release ≡ due_release due at =
    ap (λ (x : Due). x.release) first in
    let below : due_place due at < length c.loop-self.completions =
    omega (arith, c.requires at inside, c.loop-self.auto.completions) in
    record {
      opened =
          rw place
          (opened_more due from at c.args.completions.now c.loop-self.completions h.opened
          h.from below);
      from = omega (arith, h.from);
      to = λ w. omega arith;
      come = λ p a b. elim (cases_lt p at) [
        | inl l ↦ h.come p a l
        | inr g ↦ let e : at ≡ p =
            omega arith in
            subst (λ q. due_release due q ≤ c.args.now) e
            (omega (arith, release, c.if-index-now.true))
      ];
      due = h.due;
      later = h.later;
      heads = h.heads;
    }

pub loop-self-init : goal.loop-self-init
loop-self-init c = record {
  opened = record {
    long = refl;
    same = λ x. refl;
    those = λ p a b. absurd (omega arith);
    others = λ x f. refl;
  };
  from = omega arith;
  to = λ w. w;
  come = λ p a b. omega arith;
  due = refl;
  later = refl;
  heads = refl;
}

pub bounds-completions-index : goal.bounds-completions-index
bounds-completions-index c =
    let due = c.args.self.now.due.items in
    let at = c.loop-self.self.released in
    let h = c.loop-self.invariant in
    let inside : at < length due = subst (λ ds. at < length ds) h.due
    (omega (arith, c.loop-self-test.true, c.len.ensures)) in
    let item = item_is c.loop-self.self.due.items due at c.index-in-loop-self.result.now h.due
    inside c.index-in-loop-self.ensures in
    let place : c.index-in-loop-self.result.now.place ≡ due_place due at =
    ap (λ (x : Due). x.place) item in
    omega (arith, place, c.requires at inside, c.loop-self.auto.completions)

pub returns-else-index-now-clause-opened : goal.returns-else-index-now-clause-opened
returns-else-index-now-clause-opened c = c.loop-self.invariant.opened

pub returns-else-index-now-clause-from : goal.returns-else-index-now-clause-from
returns-else-index-now-clause-from c = c.loop-self.invariant.from

pub returns-else-index-now-clause-to : goal.returns-else-index-now-clause-to
returns-else-index-now-clause-to c = c.loop-self.invariant.to

pub returns-else-index-now-clause-come : goal.returns-else-index-now-clause-come
returns-else-index-now-clause-come c = c.loop-self.invariant.come

pub returns-else-index-now-clause-due : goal.returns-else-index-now-clause-due
returns-else-index-now-clause-due c = c.loop-self.invariant.due

pub returns-else-index-now-clause-later : goal.returns-else-index-now-clause-later
returns-else-index-now-clause-later c = c.loop-self.invariant.later

pub returns-else-index-now-clause-heads : goal.returns-else-index-now-clause-heads
returns-else-index-now-clause-heads c = c.loop-self.invariant.heads

pub returns-after-loop-self-clause-opened : goal.returns-after-loop-self-clause-opened
returns-after-loop-self-clause-opened c = c.loop-self.invariant.opened

pub returns-after-loop-self-clause-from : goal.returns-after-loop-self-clause-from
returns-after-loop-self-clause-from c = c.loop-self.invariant.from

pub returns-after-loop-self-clause-to : goal.returns-after-loop-self-clause-to
returns-after-loop-self-clause-to c = c.loop-self.invariant.to

pub returns-after-loop-self-clause-come : goal.returns-after-loop-self-clause-come
returns-after-loop-self-clause-come c = c.loop-self.invariant.come

pub returns-after-loop-self-clause-due : goal.returns-after-loop-self-clause-due
returns-after-loop-self-clause-due c = c.loop-self.invariant.due

pub returns-after-loop-self-clause-later : goal.returns-after-loop-self-clause-later
returns-after-loop-self-clause-later c = c.loop-self.invariant.later

pub returns-after-loop-self-clause-heads : goal.returns-after-loop-self-clause-heads
returns-after-loop-self-clause-heads c = c.loop-self.invariant.heads

pub returns-else-index-now-clause-wait : goal.returns-else-index-now-clause-wait
returns-else-index-now-clause-wait c inside =
    let due = c.args.self.now.due.items in
    let at = c.loop-self.self.released in
    let first = item_is c.loop-self.self.due.items due at c.index.result.now
    c.loop-self.invariant.due inside c.index.ensures in
    let release : c.index.result.now.release ≡ due_release due at =
    ap (λ (x : Due). x.release) first in
    omega (arith, release, c.if-index-now.false)

pub returns-after-loop-self-clause-wait : goal.returns-after-loop-self-clause-wait
returns-after-loop-self-clause-wait c inside =
    let long = ap (λ (ds : List Due). length ds) c.loop-self.invariant.due in
    absurd (omega (arith, long, inside, c.loop-self-test.false, c.len.ensures))
