use Rattle.std.proofs.Common.{◌≡◌, ◌∙◌, ◌-◌, ◌<◌, ◌≤◌, ℕ, true, false, length, sym, subst, arith}
use Rattle.std.specs.Prelude.{nat_le, nat_lt}
use Rattle.std.specs.List.Sorted.{IsNonDecreasingBy, IsPartitionPoint}
use Rattle.std.proofs.lemmas.Bool.Decides.{nat_tests}
use Rattle.std.proofs.lemmas.Fn.{always_returns_same}
use Rattle.std.proofs.lemmas.List.{get_or_default}
use Rattle.std.proofs.lemmas.List.Sorted.{IsPartitionedBy-leb}
use Rattle.flow_watch.specs.Watch.{holds}
use Rattle.loop_regions.proofs.InRanges.{below_reach, none_begun, by_ranges}
use Rattle.loop_regions.proofs.ranges.RangedLoop.holds.Goals as goal

pub returns-then-begun-gt0 : goal.returns-then-begun-gt0
returns-then-begun-gt0 c =
    let a = c.args.address in
    let stated = c.self.inside.stated.now in
    let ranges = c.self.inside.ranges.items in
    let begun = c.partition_point-begun.result in
    let bound = subst (λ l. begun ≤ length l) c.deref.ensures.value
    c.partition_point-begun.ensures.bound in
    let sorted = subst (λ l. IsNonDecreasingBy (λ (r : ℕ × ℕ). r.0) l) (sym c.deref.ensures.value)
    c.self.invariant.ascending in
    let point = subst
    (λ l. IsPartitionPoint (λ (r : ℕ × ℕ). nat_le r.0 a ≡ true)
    (λ (r : ℕ × ℕ). nat_le r.0 a ≡ false) l begun) c.deref.ensures.value
    (c.partition_point-begun.ensures.partitioned (λ (r : ℕ × ℕ). nat_le r.0 a)
    (always_returns_same _ _ _ (λ b r f' k. (k.met.1, λ j. record { 0 = k.met.0 j })))
    (IsPartitionedBy-leb (λ (r : ℕ × ℕ). r.0) c.deref.result.now a sorted)) in
    let reaches = c.self.inside.reaches.items in
    let lt : begun - 1 < length reaches = omega (arith, c.self.invariant.reach.count_is, bound) in
    let value = c.index.ensures ∙ get_or_default reaches (begun - 1) c.index.result.now 0 lt in
    let some : 0 < begun = omega arith in
    c.is_before.ensures
    ∙ subst (λ l. nat_lt a c.index.result.now ≡ holds l a) c.self.view_is
    (by_ranges stated a (nat_lt a c.index.result.now) c.if-address-self.false
    (below_reach stated.ranges ranges reaches c.self.invariant a begun bound point
    c.index.result.now some value))

pub returns-else-begun-gt0 : goal.returns-else-begun-gt0
returns-else-begun-gt0 c =
    let a = c.args.address in
    let stated = c.self.inside.stated.now in
    let ranges = c.self.inside.ranges.items in
    let begun = c.partition_point-begun.result in
    let bound = subst (λ l. begun ≤ length l) c.deref.ensures.value
    c.partition_point-begun.ensures.bound in
    let sorted = subst (λ l. IsNonDecreasingBy (λ (r : ℕ × ℕ). r.0) l) (sym c.deref.ensures.value)
    c.self.invariant.ascending in
    let point = subst
    (λ l. IsPartitionPoint (λ (r : ℕ × ℕ). nat_le r.0 a ≡ true)
    (λ (r : ℕ × ℕ). nat_le r.0 a ≡ false) l begun) c.deref.ensures.value
    (c.partition_point-begun.ensures.partitioned (λ (r : ℕ × ℕ). nat_le r.0 a)
    (always_returns_same _ _ _ (λ b r f' k. (k.met.1, λ j. record { 0 = k.met.0 j })))
    (IsPartitionedBy-leb (λ (r : ℕ × ℕ). r.0) c.deref.result.now a sorted)) in
    let none : begun ≡ 0 = omega arith in
    let test : nat_lt 0 begun ≡ false = grind (arith, nat_tests) in
    test ∙ subst (λ l. false ≡ holds l a) c.self.view_is
    (by_ranges stated a false c.if-address-self.false
    (none_begun stated.ranges ranges c.self.inside.reaches.items c.self.invariant a begun bound
    point none))
