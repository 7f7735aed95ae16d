use Rattle.std.proofs.Common.{arith, ◌≡◌, ℕ, suc, Bool, true, false, not, Some, ap, add-one, refl}
use Rattle.std.proofs.Common.{◌⊎◌, inl, inr, sym, ◌∙◌}
use Rattle.std.specs.List.{list_any}
use Rattle.std.proofs.lemmas.Bool.{cases_Bool, eq-eqb, ne_eqb, le-leb}
use Rattle.crpd_base.specs.declared.data.LoopAt.{LoopAt}
use Rattle.flow_watch.specs.Watch.{in_range, iterations_after}
use Rattle.flow_watch.proofs.loops.iterations_after.Goals as goal
use Rattle.flow_watch.proofs.loops.iterations_after.Goals.{then-turns-eq0, else-turns-eq0}

flipped : (r : Bool) → not r ≡ true → r ≡ false
flipped true e = cc
flipped false e = refl

closed : (a : ℕ) (loop : LoopAt) (turns : ℕ) → (a ≡ loop.head → ⊥)
    → (turns ≡ 0) ⊎ (list_any (in_range a) loop.ranges ≡ false) → iterations_after a loop turns ≡ 0
closed a loop turns other (inl none) =
    let t = ne_eqb a loop.head other in
    elim (cases_Bool (list_any (in_range a) loop.ranges)) [
      | inl e ↦ rw (t, e) none
      | inr e ↦ rw (t, e) refl
    ]
closed a loop turns other (inr outside) =
    let t = ne_eqb a loop.head other in rw (t, outside) refl

pub returns-then-turns-bound : goal.returns-then-turns-bound
returns-then-turns-bound c =
    let t = eq-eqb c.args.address c.args.stated.now.head c.if-address-stated.true in
    let b = le-leb (suc c.args.turns) c.args.stated.now.bound (omega arith) in
    rw (t, b) (ap Some (add-one c.args.turns))

pub returns-then-not-is_in_ranges : goal.returns-then-not-is_in_ranges
returns-then-not-is_in_ranges c =
    let left : iterations_after c.args.address c.args.stated.now c.args.turns ≡ 0 =
    elim c.if-turns-eq0.branch [
      | then-turns-eq0 w ↦ closed c.args.address c.args.stated.now c.args.turns
          c.if-address-stated.false (inl w.if-turns-eq0.true)
      | else-turns-eq0 w ↦ closed c.args.address c.args.stated.now c.args.turns
          c.if-address-stated.false
          (inr (sym w.is_in_ranges.ensures
          ∙ flipped _ (sym w.value-is ∙ c.if-not-is_in_ranges.true)))
    ] in
    let b = le-leb 0 c.args.stated.now.bound (omega arith) in
    rw (left, b) refl
