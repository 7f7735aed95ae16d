use Rattle.std.proofs.Common.{◌≡◌, ℕ, ◌+◌, ◌<◌, ◌++◌, ◌∷◌, [], List, length, sym, ◌∙◌, ap, subst}
use Rattle.std.proofs.Common.{inl, inr, arith, get_or-set_same, get_or-set_other, length-set}
use Rattle.std.proofs.Common.{length-append, slice_index}
use Rattle.std.proofs.lemmas.Bool.{cases_eq}
use Rattle.std.proofs.lemmas.List.{get_or_default, get_or-replicate, length-replicate}
use Rattle.preempt_machine.specs.declared.Completion.{Completion}
use Rattle.preempt_machine.specs.declared.End.TheVariants as «end»
use Rattle.preempt_machine.specs.Machine.{number_in_script}
use Rattle.preempt_machine.specs.Schedule.{script_line, completion}
use Rattle.preempt_machine.proofs.Starting.{completions_more, number_bound, number_other}
use Rattle.preempt_machine.proofs.Starting.{number_same, number_start}
use Rattle.preempt_machine.proofs.schedule.start_completions.Goals as goal

pub loop-line-init : goal.loop-line-init
loop-line-init c =
    let zeros = c.in_ok-counts.ensures in
    record {
      long = ap length c.new-completions.ensures.items;
      each = λ x a. absurd (omega arith);
      count = ap length zeros ∙ length-replicate c.args.tasks 0;
      counts = λ t a.
          ap (λ (l : List ℕ). slice_index l t) zeros ∙ get_or-replicate c.args.tasks t 0 0 a
          ∙ sym (number_start c.args.lines.now t);
    }

pub loop-line-preserved : goal.loop-line-preserved
loop-line-preserved c =
    let lines = c.args.lines.now in
    let i = c.loop-line.line-index in
    let inside = c.loop-line-test.true in
    let h = c.loop-line.invariant in
    let counts = c.loop-line.counts.items in
    let task = c.from-task.result in
    let is : task ≡ (script_line lines i).task.0 = c.from-task.ensures in
    let below : task < length counts = omega (arith, c.requires.tasks i inside, is, h.count) in
    let first : c.index.result.now ≡ number_in_script lines task i =
    c.index.ensures ∙ get_or_default counts task c.index.result.now 0 below
    ∙ h.counts task (omega (arith, h.count)) in
    let before : c.index_mut.result.now ≡ number_in_script lines task i =
    c.index_mut.ensures.value ∙ get_or_default counts task c.index_mut.result.now 0 below
    ∙ h.counts task (omega (arith, h.count)) in
    let give : ℕ → Completion = λ x. record {
      job = record {
        task = (script_line lines x).task;
        number = number_in_script lines (script_line lines x).task.0 x;
      };
      «end» = «end».Unreleased;
    } in
    let new : Completion = record {
      job = record { task = (script_line lines i).task; number = c.index.result.now };
      «end» = «end».Unreleased;
    } in
    let number : c.index.result.now ≡ number_in_script lines (script_line lines i).task.0 i =
    first ∙ ap (λ t. number_in_script lines t i) is in
    let one : new ≡ give i = ap
    (λ n. record {
      job = record { task = (script_line lines i).task; number = n };
      «end» = «end».Unreleased;
    }) number in
    let pushed : c.push.new.list.items ≡ c.loop-line.completions.items ++ new ∷ [] =
    c.in_ok-push.ensures in
    record {
      long =
          omega (
            arith,
            ap length pushed,
            length-append c.loop-line.completions.items (new ∷ []),
            h.long,
          );
      each =
          subst (λ (cs : List Completion). (x : ℕ) → x < i + 1 → completion cs x ≡ give x)
          (sym pushed)
          (completions_more c.loop-line.completions.items new give i h.long h.each one);
      count = length-set counts task _ ∙ h.count;
      counts = λ t a. elim (cases_eq t task) [
        | inl e ↦
            let now : number_in_script lines t (i + 1) ≡ number_in_script lines task i + 1 =
            ap (λ n. number_in_script lines n (i + 1)) (e ∙ is) ∙ number_same lines i inside
            ∙ ap (λ n. number_in_script lines n i + 1) (sym is) in
            ap (slice_index _) e ∙ get_or-set_same counts task _ 0 below
            ∙ ap (λ n. n + 1) before ∙ sym now
        | inr ne ↦
            get_or-set_other counts task t _ 0 ne ∙ h.counts t a
            ∙ sym (number_other lines t i inside (λ z. ne (z ∙ sym is)))
      ];
    }

pub overflow_add-index_mut : goal.overflow_add-index_mut
overflow_add-index_mut c =
    let lines = c.args.lines.now in
    let i = c.loop-line.line-index in
    let inside = c.loop-line-test.true in
    let h = c.loop-line.invariant in
    let counts = c.loop-line.counts.items in
    let task = c.from-task.result in
    let is : task ≡ (script_line lines i).task.0 = c.from-task.ensures in
    let below : task < length counts = omega (arith, c.requires.tasks i inside, is, h.count) in
    let before : c.index_mut.result.now ≡ number_in_script lines task i =
    c.index_mut.ensures.value ∙ get_or_default counts task c.index_mut.result.now 0 below
    ∙ h.counts task (omega (arith, h.count)) in
    omega (arith, before, number_bound lines task i, c.requires.few, inside)
