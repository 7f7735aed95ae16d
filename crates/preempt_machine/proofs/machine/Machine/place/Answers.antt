use Rattle.std.proofs.Common.{◌≡◌, ◌<◌, length, sym, ◌∙◌, ap, subst, arith}
use Rattle.preempt_machine.specs.declared.Completion.{Completion}
use Rattle.preempt_machine.specs.Machine.{Machine}
use Rattle.preempt_machine.specs.Running.{Running, job_id, IsJobAt}
use Rattle.preempt_machine.specs.Schedule.{completion}
use Rattle.preempt_machine.specs.Inner.Parts.{machine_of}
use Rattle.preempt_machine.proofs.Starting.{at_place, id_at, one_place}
use Rattle.preempt_machine.proofs.machine.Machine.place.Goals as goal

pub place_of-requires : goal.place_of-requires
place_of-requires c =
    let m = machine_of c.self.inside.parts in
    let state : m ≡ c.args.self.now.state = ap (λ (r : Running). r.state) c.self.view_is in
    let (x, there) = c.requires in
    let at : IsJobAt m c.args.job x = subst (λ n. IsJobAt n c.args.job x) (sym state) there in
    let value = c.as_slice.ensures.value in (
      x,
      omega (arith, at.below, c.self.invariant.machine.told, ap length value),
      ap (λ cs. (completion cs x).job) value
          ∙ ap (λ (d : Completion). d.job) (c.self.invariant.machine.completions x at.below)
          ∙ id_at m c.args.job x at,
    )

pub returns-clause-below : goal.returns-clause-below
returns-clause-below c =
    let state : machine_of c.self.inside.parts ≡ c.args.self.now.state =
    ap (λ (r : Running). r.state) c.self.view_is in
    omega (
      arith,
      c.place_of.ensures.below,
      c.self.invariant.machine.told,
      ap length c.as_slice.ensures.value,
      ap (λ (n : Machine). length n.jobs) state,
    )

pub returns-clause-is : goal.returns-clause-is
returns-clause-is c x there =
    let m = machine_of c.self.inside.parts in
    let state : m ≡ c.args.self.now.state = ap (λ (r : Running). r.state) c.self.view_is in
    let at : IsJobAt m c.args.job x = subst (λ n. IsJobAt n c.args.job x) (sym state) there in
    let value = c.as_slice.ensures.value in
    let p = c.place_of.result in
    let below : p < length m.jobs = omega (
      arith,
      c.place_of.ensures.below,
      c.self.invariant.machine.told,
      ap length value,
    ) in
    let id : job_id m p ≡ c.args.job = sym
    (ap (λ (d : Completion). d.job) (c.self.invariant.machine.completions p below))
    ∙ sym (ap (λ cs. (completion cs p).job) value) ∙ c.place_of.ensures.job in
    one_place m c.args.job p x (at_place m c.args.job p below id) at
