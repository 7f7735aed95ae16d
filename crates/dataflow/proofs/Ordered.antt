-- Joins make an order.
use Rattle.std.proofs.Common.{sym, ap, ◌∙◌}
use Rattle.dataflow.specs.Problem.{IsSemilattice, IsOrderWithJoins}

pub ordered : (V : Type 0) (joined : V → V → V) → IsSemilattice V joined → IsOrderWithJoins V joined
ordered V joined laws = record {
  reflexive = laws.same;
  transitive = λ a b c h k.
      ap (λ x. joined a x) (sym k) ∙ sym (laws.grouped a b c) ∙ ap (λ x. joined x c) h ∙ k;
  antisymmetric = λ a b h k. sym k ∙ laws.swapped b a ∙ h;
  above_left = λ a b. sym (laws.grouped a a b) ∙ ap (λ x. joined x b) (laws.same a);
  above_right = λ a b.
      ap (λ x. joined b x) (laws.swapped a b) ∙ sym (laws.grouped b b a)
      ∙ ap (λ x. joined x a) (laws.same b) ∙ laws.swapped b a;
  least = λ a b c h k. laws.grouped a b c ∙ ap (λ x. joined a x) k ∙ h;
}
