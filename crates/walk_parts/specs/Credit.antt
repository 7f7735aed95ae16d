-- Loads that are paid for in advance, and for which sets a walk has credit left.
use Rattle.std.specs.Prelude.{◌≡◌, ◌≢◌, ◌⊎◌, ℕ, ◌+◌, ◌*◌, ◌<◌, ◌≤◌, ◌==◌, ◌&&◌, ◌||◌, Bool, true, false, not}
use Rattle.std.specs.Prelude.{List, [], ◌∷◌, Option, Some, None}
use Rattle.crpd_base.specs.declared.data.Platform.{Platform}
use Rattle.crpd_base.specs.Sum.{sum_below, one_if}
use Rattle.flat_graph.specs.Graph.{Graph, Edge, IsWalk, onto}
use Rattle.icache.specs.Accesses.{Accesses, last_access, first_access}

-- for which cache sets an edge pays, and for which the start does: one load of a block, in advance
pub record Payments : Type 0 where
  pub edge : ℕ → ℕ → ℕ → Bool
  pub start : ℕ → Bool

-- whether set s is in credit at the last node of a walk, before that node's access: it was paid for,
-- and no node since has accessed it
abbrev pub in_credit : Accesses → Payments → ℕ → List ℕ → Bool
in_credit a pay s [] = false
in_credit a pay s (y ∷ []) = pay.start s
in_credit a pay s (v ∷ u ∷ before) =
    pay.edge u v s || (not (a.set u == s) && in_credit a pay s (u ∷ before))

-- how many of the first n sets pass a test
abbrev pub count_sets : (ℕ → Bool) → ℕ → ℕ
count_sets test n = sum_below (λ s. one_if (test s)) n

-- how many of the first n sets are in credit
abbrev pub credits : Accesses → Payments → ℕ → List ℕ → ℕ
credits a pay n w = count_sets (λ s. in_credit a pay s w) n

-- the price of an edge, and that of the start
abbrev pub price : Platform → Payments → ℕ → ℕ → ℕ
price p pay u v = p.miss * count_sets (pay.edge u v) p.sets

abbrev pub start_price : Platform → Payments → ℕ
start_price p pay = p.miss * count_sets pay.start p.sets

-- how many loads a walk has paid for
abbrev pub paid_along : Payments → ℕ → List ℕ → ℕ
paid_along pay n [] = 0
paid_along pay n (y ∷ []) = count_sets pay.start n
paid_along pay n (v ∷ u ∷ before) = paid_along pay n (u ∷ before) + count_sets (pay.edge u v) n

-- how many nodes before the last one access a set that is in credit
abbrev pub used_along : Accesses → Payments → List ℕ → ℕ
used_along a pay [] = 0
used_along a pay (y ∷ []) = 0
used_along a pay (v ∷ u ∷ before) =
    used_along a pay (u ∷ before) + one_if (in_credit a pay (a.set u) (u ∷ before))

-- each access in credit, and each set that is in credit at the end, has a load of its own that was
-- paid for
abbrev pub CreditLaw : Type 0
CreditLaw =
    (a : Accesses) (pay : Payments) (n : ℕ) (w : List ℕ) → ((y : ℕ) → a.set y < n)
    → used_along a pay w + credits a pay n w ≤ paid_along pay n w

-- the block that each set holds before each node, by a function
abbrev pub given_by : (ℕ → ℕ → Option ℕ) → ℕ → ℕ → ℕ → Type 0
given_by state y s m = state y s ≡ Some m

-- the state after node u gives block m to set s, by the states before the nodes
abbrev pub After : Accesses → (ℕ → ℕ → ℕ → Type 0) → ℕ → ℕ → ℕ → Type 0
After a holds u s m = ((a.set u ≡ s) × (a.block u ≡ m)) ⊎ ((a.set u ≢ s) × holds u s m)

-- what a state gives to a set is paid for at the start, or by the edge to it, or it is in the state
-- after the node before
pub record ArePrepaid (g : Graph) (a : Accesses) (pay : Payments)
    (holds : ℕ → ℕ → ℕ → Type 0) : Type 0 where
  pub first : (s m : ℕ) → holds g.first s m → pay.start s ≡ true
  pub edges : (u v s m : ℕ) → Edge g u v → holds v s m
      → (pay.edge u v s ≡ true) ⊎ After a holds u s m

-- so each set that holds a block before the last node of a walk is in credit, or the walk's last
-- access to it was to that block
abbrev pub PrepaidLaw : Type 0
PrepaidLaw =
    (g : Graph) (a : Accesses) (pay : Payments) (state : ℕ → ℕ → Option ℕ) (y s m : ℕ)
    (before : List ℕ) → ArePrepaid g a pay (given_by state) → IsWalk g (y ∷ before)
    → state y s ≡ Some m
    → (in_credit a pay s (y ∷ before) ≡ true) ⊎ (last_access a s before ≡ Some m)

-- the same of the state after it: it is in credit and not the node's own set, or the last access of
-- the walk with this node was to that block
abbrev pub PrepaidAfterLaw : Type 0
PrepaidAfterLaw =
    (g : Graph) (a : Accesses) (pay : Payments) (state : ℕ → ℕ → Option ℕ) (y s m : ℕ)
    (before : List ℕ) → ArePrepaid g a pay (given_by state) → IsWalk g (y ∷ before)
    → After a (given_by state) y s m
    → ((a.set y ≢ s) × (in_credit a pay s (y ∷ before) ≡ true))
    ⊎ (last_access a s (y ∷ before) ≡ Some m)

-- the useful sets of the nodes have the own set of each hit, and what is useful at a successor, but
-- for the node's own set and the sets for which the edge pays
pub record AreUseful (g : Graph) (a : Accesses) (pay : Payments) (hit : ℕ → Bool)
    (useful : ℕ → ℕ → Bool) : Type 0 where
  pub own : (u : ℕ) → u < g.size → hit u ≡ true → useful u (a.set u) ≡ true
  pub edges : (u v s : ℕ) → Edge g u v → a.set u ≢ s → pay.edge u v s ≡ false
      → useful v s ≡ true → useful u s ≡ true

-- so the own set of a hit that is not in credit is useful at each node of the walk since the last
-- access to it
abbrev pub CreditCarryLaw : Type 0
CreditCarryLaw =
    (g : Graph) (a : Accesses) (pay : Payments) (hit : ℕ → Bool) (useful : ℕ → ℕ → Bool)
    (y z : ℕ) (before later : List ℕ) → ((u v : ℕ) → Edge g u v → v < g.size) →
    AreUseful g a pay hit useful → IsWalk g (z ∷ onto later (y ∷ before)) → hit z ≡ true
    → in_credit a pay (a.set z) (z ∷ onto later (y ∷ before)) ≡ false
    → first_access a (a.set z) (y ∷ later) ≡ None → useful y (a.set z) ≡ true
