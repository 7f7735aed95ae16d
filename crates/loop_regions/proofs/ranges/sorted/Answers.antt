use Rattle.std.proofs.Common.{ℕ, subst, rules}
use Rattle.std.specs.List.Sorted.{IsPermutation}
use Rattle.std.proofs.lemmas.List.Sorted.{IsNonDecreasingBy-from_sort_by_key}
use Rattle.loop_regions.proofs.ranges.sorted.Goals as goal

pub returns-clause-same : goal.returns-clause-same
returns-clause-same c =
    subst (λ xs. IsPermutation xs c.sort_by_key.new.self.items) c.in_ok-sorted.ensures.items
    c.in_ok-sort_by_key.ensures.permutation

pub returns-clause-ascending : goal.returns-clause-ascending
returns-clause-ascending c =
    IsNonDecreasingBy-from_sort_by_key (λ (r : ℕ × ℕ). r.0) _ c.in_ok-sort_by_key.ensures.sorted
    (λ a r q k. search rules)
