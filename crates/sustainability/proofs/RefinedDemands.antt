-- The demand by each of the five methods of a workload that is no more demanding than another.
use Rattle.std.proofs.Common.{ℕ, suc, ◌<◌, ◌≤◌, length, arith}
use Rattle.std.proofs.lemmas.Nat.{mul-le}
use Rattle.crpd_base.specs.Tasks.{period_of}
use Rattle.crpd_base.specs.declared.data.Method.TheVariants.{Ucb as ByUcb, Ecb as ByEcb}
use Rattle.crpd_base.specs.declared.data.Method.{Method}
use Rattle.crpd_base.specs.declared.data.PointMethod.{PointMethod}
use Rattle.crpd_base.specs.declared.data.PointMethod.TheVariants.{Ucb, Ecb, Point}
use Rattle.crpd_base.specs.declared.data.PointMethod.TheVariants.{PersistentUcb, PersistentPoint}
use Rattle.delay_count.specs.Counts.{jobs_of, affected_preemptions}
use Rattle.delay_count.specs.Gamma.{evicted_from, shared_count, greatest_choice}
use Rattle.delay_count.specs.Demand.{gamma}
use Rattle.delay_count.proofs.Greatest.{greatest_ge}
use Rattle.delay_point.specs.Gamma.{point_shared, gamma_point}
use Rattle.delay_point.specs.Refined.{Needs, refined_gamma, point_needs}
use Rattle.sustainability.specs.RefinedWorkload.{RefinedWorkload, counted_by, useful_by}
use Rattle.sustainability.specs.RefinedWorkload.{IsNoMoreDemandingAtNodes}
use Rattle.sustainability.proofs.Counts.{greatest_within}
use Rattle.sustainability.proofs.Delays.{shared_le}
use Rattle.sustainability.proofs.Demands.{choice_le, demand_by_from, evicted_le, gamma_from}

-- the most that is shared at a node, by the parts that a method counts
abbrev pub shared_by : RefinedWorkload → PointMethod → ℕ → ℕ → ℕ
shared_by load method =
    point_shared load.graphs (useful_by method load) (counted_by method load).parts

-- the demands of a workload
abbrev pub needs_of : RefinedWorkload → Needs
needs_of load = point_needs load.set load.graphs load.parts

module _ (origin : ℕ → ℕ) (less more : RefinedWorkload)
    (D : IsNoMoreDemandingAtNodes origin less more)
    (P : (k : ℕ) → k < length more.set.tasks → 1 ≤ period_of more.set k)
    (short long : ℕ → ℕ) (i v w : ℕ) (is : i < length less.set.tasks) (room : v ≤ w)
    (below : (k : ℕ) → k < i → short k ≤ long (origin k)) where
  shared_from : (m : PointMethod) (j k : ℕ) → j < i → k < suc i
      → shared_by less m j k ≤ shared_by more m (origin j) (origin k)
  shared_from m j k h l =
      greatest_within
      (λ y. shared_count (useful_by m less k y) (evicted_from (counted_by m less).parts j) 512) 0
      (less.graphs k).graph.size (shared_by more m (origin j) (origin k)) (λ y from b.
      let N = D.nodes m k y (omega arith) b in
      let le = shared_le (useful_by m less k y) (useful_by m more (origin k) N.node)
      (evicted_from (counted_by m less).parts j)
      (evicted_from (counted_by m more).parts (origin j)) 512 N.useful
      (λ c. evicted_le origin (counted_by m less) (counted_by m more) (D.counted m) P short long i
      v w is room below j c h) in
      let at = greatest_ge (λ y. shared_count (useful_by m more (origin k) y)
      (evicted_from (counted_by m more).parts (origin j)) 512) 0
      (more.graphs (origin k)).graph.size N.node (omega arith) N.within in
      omega (arith, le, at))

  point_from : (m : PointMethod) (j : ℕ) → j < i
      → gamma_point less.set (shared_by less m) short v i j
      ≤ gamma_point more.set (shared_by more m) long w (origin i) (origin j)
  point_from m j h =
      let D' = D.counted m in
      mul-le less.set.platform.miss
      (greatest_choice (shared_by less m j) (affected_preemptions less.set short v i j) (suc i)
      (jobs_of less.set j v)) more.set.platform.miss
      (greatest_choice (shared_by more m (origin j))
      (affected_preemptions more.set long w (origin i) (origin j)) (suc (origin i))
      (jobs_of more.set (origin j) w)) D'.platform.miss
      (choice_le origin (counted_by m less) (counted_by m more) (D.counted m) P short long i v w is
      room below j (shared_by less m j) (shared_by more m (origin j)) h
      (λ k l. shared_from m j k h l))

  multiset_from : (m : PointMethod) (by : Method) (j : ℕ) → j < i
      → gamma less.set (counted_by m less).parts short v by i j
      ≤ gamma more.set (counted_by m more).parts long w by (origin i) (origin j)
  multiset_from m by j h =
      gamma_from origin (counted_by m less) (counted_by m more) (D.counted m) P short long i v w is
      room below by j h

  -- the delay by a method
  abbrev less_delay : PointMethod → ℕ → ℕ
  less_delay m j =
      refined_gamma less.set (counted_by m less).parts (shared_by less m) short v m i j

  abbrev more_delay : PointMethod → ℕ → ℕ
  more_delay m j =
      refined_gamma more.set (counted_by m more).parts (shared_by more m) long w m (origin i) j

  delay_from : (m : PointMethod) (j : ℕ) → j < i → less_delay m j ≤ more_delay m (origin j)
  delay_from Ucb j h = multiset_from Ucb ByUcb j h
  delay_from Ecb j h = multiset_from Ecb ByEcb j h
  delay_from Point j h = point_from Point j h
  delay_from PersistentUcb j h = multiset_from PersistentUcb ByUcb j h
  delay_from PersistentPoint j h = point_from PersistentPoint j h

  pub needs_from : (m : PointMethod)
      → needs_of less short i m v ≤ needs_of more long (origin i) m w
  needs_from m =
      demand_by_from origin (counted_by m less) (counted_by m more) (D.counted m) P short long i v
      w is room below (less_delay m) (more_delay m) (delay_from m)
