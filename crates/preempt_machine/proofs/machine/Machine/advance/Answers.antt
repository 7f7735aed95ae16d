use Rattle.std.proofs.Common.{◌≡◌, ◌<◌, ◌&&◌, Bool, Some, ℕ, length, sym, ◌∙◌, ap, subst}
use Rattle.std.specs.Prelude.{◌↔◌, IsTrue}
use Rattle.preempt_machine.specs.declared.parts.Parts.{Parts}
use Rattle.preempt_machine.specs.Inner.KeptFlag.{owner_is_kept}
use Rattle.preempt_machine.specs.Inner.Parts.{machine_of, running_of, HasMade, HasSameState}
use Rattle.preempt_machine.specs.Inner.Parts.{IsMachine}
use Rattle.preempt_machine.specs.Running.{Running, GivesStore, HasPlans, system_by}
use Rattle.preempt_machine.specs.Safe.{IsKept}
use Rattle.preempt_machine.proofs.Turns.{on_err_of}
use Rattle.preempt_machine.proofs.Watches.{flag_goes_on}
use Rattle.preempt_machine.proofs.machine.Machine.advance.Goals as goal
use Rattle.preempt_machine.proofs.machine.Machine.advance.Goals.{then-self, else-self}

pub owner_is_kept-self-inside-requires : goal.owner_is_kept-self-inside-requires
owner_is_kept-self-inside-requires c o e = (c.in_ok-advance.ensures.machine.owner o e).below

same_machine : (old new : Parts) → HasSameState old new → IsMachine old → IsMachine new
same_machine old new h k = rw (h.geometry, h.state, h.queue, h.completions) k

pub invariant_of-self : goal.invariant_of-self
invariant_of-self c =
    let same = c.in_err-advance.ensures.err in
    record {
      machine =
          same_machine c.self.inside.parts c.advance.new.self same c.self.invariant.machine;
      kept =
          subst (λ m. IsTrue c.self.inside.kept ↔ IsKept m) (sym same.state) c.self.invariant.kept;
    }

pub invariant_of-self-2 : goal.invariant_of-self-2
invariant_of-self-2 c =
    let new = machine_of c.advance.new.self in
    let flag = c.self.inside.kept in
    let both : c.if-self.self ≡ (flag && owner_is_kept new) = elim c.if-self.branch [
      | then-self w ↦
          w.self-is ∙ w.owner_is_kept-self-inside.ensures
          ∙ ap (λ b. b && owner_is_kept new) (sym w.if-self.true)
      | else-self w ↦
          w.self-is ∙ w.if-self.false ∙ ap (λ b. b && owner_is_kept new) (sym w.if-self.false)
    ] in
    let below : (o : ℕ) → new.owner ≡ Some o → o < length new.jobs = λ o e.
    (c.in_ok-advance.ensures.machine.owner o e).below in
    record {
      machine = c.in_ok-advance.ensures.machine;
      kept =
          subst (λ (b : Bool). IsTrue b ↔ IsKept new) (sym both)
          (flag_goes_on (machine_of c.self.inside.parts) new flag c.in_ok-advance.ensures.owner
          below c.self.invariant.kept);
    }

pub advance-requires-clause-machine : goal.advance-requires-clause-machine
advance-requires-clause-machine c = c.self.invariant.machine

pub advance-requires-clause-plans : goal.advance-requires-clause-plans
advance-requires-clause-plans c =
    subst (λ (m : Running). HasPlans c.args.code.now m.state) (sym c.self.view_is) c.requires.plans

pub advance-requires-clause-before : goal.advance-requires-clause-before
advance-requires-clause-before c =
    subst (λ (m : Running). m.state.time < c.args.cycle) (sym c.self.view_is) c.requires.before

pub returns-clause-ok : goal.returns-clause-ok
returns-clause-ok c =
    subst (λ (m : Running). HasMade c.args.code.now c.args.cycle m (running_of c.advance.new.self))
    c.self.view_is c.in_ok-advance.ensures.ok

pub returns-clause-plans : goal.returns-clause-plans
returns-clause-plans c = c.in_ok-advance.ensures.plans

same_running : (old new : Parts) → HasSameState old new → running_of new ≡ running_of old
same_running old new h = cc (h.state, h.fetch, h.geometry)

pub returns-in_err-advance-clause-plans : goal.returns-in_err-advance-clause-plans
returns-in_err-advance-clause-plans c =
    let same = same_running c.self.inside.parts c.advance.new.self c.in_err-advance.ensures.err in
    subst (λ (m : Running). HasPlans c.args.code.now m.state) (sym (same ∙ c.self.view_is))
    c.requires.plans

pub returns-in_err-advance-clause-err : goal.returns-in_err-advance-clause-err
returns-in_err-advance-clause-err c =
    on_err_of c.from_residual.result _
    (same_running c.self.inside.parts c.advance.new.self c.in_err-advance.ensures.err
    ∙ c.self.view_is)

pub returns-in_err-advance-clause-only : goal.returns-in_err-advance-clause-only
returns-in_err-advance-clause-only c =
    on_err_of c.from_residual.result _
    (subst (λ (m : Running). GivesStore (system_by m.platform c.args.code.now) m.state)
    c.self.view_is c.in_err-advance.ensures.only)
