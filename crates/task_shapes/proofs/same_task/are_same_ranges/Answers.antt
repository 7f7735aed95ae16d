use Rattle.std.proofs.Common.{◌≡◌, ℕ, Decides, ap, eq-eqb, ◌==◌, ◌&&◌}
use Rattle.std.proofs.lemmas.Bool.{and_parts, eqb-true}
use Rattle.std.proofs.lemmas.Slice.Eq.{slice_eq-Decides}
use Rattle.task_shapes.proofs.same_task.are_same_ranges.Goals as goal

same_pair : (a b : ℕ × ℕ) → Decides (a.0 == b.0 && a.1 == b.1) (a ≡ b)
same_pair a b = (
  (λ t. let p = and_parts (a.0 == b.0) (a.1 == b.1) t in let x = eqb-true a.0 b.0 p.0 in
      let y = eqb-true a.1 b.1 p.1 in λ i. (x i, y i)),
  (λ e. rw (eq-eqb a.0 b.0 (ap (λ (p : ℕ × ℕ). p.0) e))
      (eq-eqb a.1 b.1 (ap (λ (p : ℕ × ℕ). p.1) e))),
)

pub returns : goal.returns
returns c = slice_eq-Decides same_pair c.args.old.now c.args.new.now c.eq.result c.eq.ensures
