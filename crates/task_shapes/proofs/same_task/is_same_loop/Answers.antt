use Rattle.std.proofs.Common.{◌≡◌, ◌∙◌, sym, ap, arith}
use Rattle.crpd_base.specs.declared.data.LoopAt.{LoopAt}
use Rattle.task_shapes.proofs.same_task.is_same_loop.Goals as goal

same_loop : (a b : LoopAt) → a.head ≡ b.head → a.bound ≡ b.bound → a.ranges ≡ b.ranges → a ≡ b
same_loop a b head bound ranges = λ i. record { head = head i; bound = bound i; ranges = ranges i }

pub returns : goal.returns
returns c = (
  (λ t. same_loop c.args.old.now c.args.new.now (omega arith) (omega arith)
      (sym c.as_slice-before.ensures ∙ c.are_same_ranges.ensures.0 t ∙ c.as_slice-after.ensures)),
  (λ e. c.are_same_ranges.ensures.1
      (c.as_slice-before.ensures ∙ ap (λ (l : LoopAt). l.ranges) e ∙ sym c.as_slice-after.ensures)),
)
