-- The demand of a workload that is no more demanding than another.
use Rattle.std.proofs.Common.{◌≡◌, ℕ, suc, ◌+◌, ◌<◌, ◌≤◌, length, inl, inr, subst}
use Rattle.std.proofs.Common.{true, ap, arith, ◌-◌}
use Rattle.std.specs.Prelude.{nat_lt}
use Rattle.std.proofs.lemmas.Nat.{mul-le}
use Rattle.std.proofs.lemmas.Bool.{cases_Bool, cases_eq, eq-eqb, ne_eqb, ltb-true, lt-ltb}
use Rattle.crpd_base.specs.Sets.{has}
use Rattle.crpd_base.specs.Tasks.{period_of, jitter_of}
use Rattle.crpd_base.specs.declared.data.Method.{Method}
use Rattle.crpd_base.specs.declared.data.Method.TheVariants.{Ucb, Ecb}
use Rattle.crpd_base.specs.declared.data.Switching.{Switching}
use Rattle.crpd_base.specs.declared.data.Switching.TheVariants.{Cycle, Instruction}
use Rattle.delay_count.specs.Counts.{jobs_of, affected_preemptions}
use Rattle.delay_count.specs.Gamma.{ucb_count, ecb_count, evicted_from, shared_sets}
use Rattle.delay_count.specs.Gamma.{greatest_choice}
use Rattle.delay_count.specs.Demand.{blocking, gamma, demand, demand_by, jobs_demand}
use Rattle.sustainability.specs.Workload.{Workload, KeepsOrder, IsNoMoreDemanding}
use Rattle.sustainability.proofs.Counts.{jobs_le, sum_from, greatest_le, choice_from, origin_up}
use Rattle.sustainability.proofs.Counts.{order_before}
use Rattle.sustainability.proofs.Delays.{shared_le, union_from, evicted_origin}

-- blocking
blocking_le : (mode : Switching) (f g origin : ℕ → ℕ) (n m i : ℕ) → KeepsOrder origin n m
    → ((k : ℕ) → k < n → f k ≤ g (origin k)) → blocking mode f i n ≤ blocking mode g (origin i) m
blocking_le Cycle f g origin n m i O le = omega arith
blocking_le Instruction f g origin n m i O le =
    greatest_le (λ k. f k - 1) (λ k. g k - 1) origin n m i O
    (λ k l. let h = le k l in omega (arith, h))

module _ (origin : ℕ → ℕ) (less more : Workload) (D : IsNoMoreDemanding origin less more)
    (P : (k : ℕ) → k < length more.set.tasks → 1 ≤ period_of more.set k) where
  jobs_from : (j x y : ℕ) → j < length less.set.tasks → x ≤ y
      → jobs_of less.set j x ≤ jobs_of more.set (origin j) y
  jobs_from j x y l h =
      jobs_le (period_of more.set (origin j)) (period_of less.set j) (jitter_of less.set j)
      (jitter_of more.set (origin j)) x y (P (origin j) (D.order.within j l))
      (D.times.period j l) (D.times.jitter j l) h

  -- a window v of task i, and one of its origin that is no shorter, each with those of higher tasks
  module _ (short long : ℕ → ℕ) (i v w : ℕ) (is : i < length less.set.tasks) (room : v ≤ w)
      (below : (k : ℕ) → k < i → short k ≤ long (origin k)) where
    order : KeepsOrder origin (suc i) (suc (origin i))
    order = record {
      within = λ k l.
          let up = origin_up origin (length less.set.tasks) (length more.set.tasks) k i D.order
          (omega arith) is in
          omega (arith, up);
      rising = λ j k l h. D.order.rising j k l (omega arith);
    }

    pub affected_from : (j k : ℕ) → j < i → k < suc i
        → affected_preemptions less.set short v i j k
        ≤ affected_preemptions more.set long w (origin i) (origin j) (origin k)
    affected_from j k h l =
        elim (cases_Bool (nat_lt j k)) [
          | inr t ↦ rw t (omega arith)
          | inl t ↦
              let up = D.order.rising j k (ltb-true j k t) (omega arith) in
              let u = lt-ltb (origin j) (origin k) up in
              elim (cases_eq k i) [
                | inl e ↦
                    let b = eq-eqb k i e in
                    let c = eq-eqb (origin k) (origin i) (ap origin e) in
                    rw (t, u, b, c) (jobs_from j v w (omega arith) room)
                | inr ne ↦
                    let lt : k < i = omega arith in
                    let r = D.order.rising k i lt is in
                    let b = ne_eqb k i ne in
                    let c = ne_eqb (origin k) (origin i) (λ e. absurd (omega (arith, e, r))) in
                    rw (t, u, b, c) (mul-le (jobs_of less.set j (short k)) (jobs_of less.set k v)
                    (jobs_of more.set (origin j) (long (origin k)))
                    (jobs_of more.set (origin k) w)
                    (jobs_from j (short k) (long (origin k)) (omega arith) (below k lt))
                    (jobs_from k v w (omega arith) room))
              ]
        ]

    pub ucb_from : (j : ℕ) → j < i
        → ucb_count less.set less.parts short v i j
        ≤ ucb_count more.set more.parts long w (origin i) (origin j)
    ucb_from j h =
        union_from (jobs_of less.set j v) (jobs_of more.set (origin j) w)
        (has (less.parts j).evicting) (has (more.parts (origin j)).evicting)
        (λ k. has (less.parts k).useful) (λ k. has (more.parts k).useful)
        (affected_preemptions less.set short v i j)
        (affected_preemptions more.set long w (origin i) (origin j)) origin
        (suc i) (suc (origin i)) 512 order
        (jobs_from j v w (omega arith) room)
        ((D.parts j (omega arith)).evicting)
        (λ k c l. (D.parts k (omega arith)).useful c)
        (λ k l. affected_from j k h l)

    -- a largest choice, by any values of which none is larger
    pub choice_le : (j : ℕ) (value greater : ℕ → ℕ) → j < i
        → ((k : ℕ) → k < suc i → value k ≤ greater (origin k))
        → greatest_choice value (affected_preemptions less.set short v i j) (suc i)
        (jobs_of less.set j v)
        ≤ greatest_choice greater (affected_preemptions more.set long w (origin i) (origin j))
        (suc (origin i)) (jobs_of more.set (origin j) w)
    choice_le j value greater h le =
        choice_from value greater (affected_preemptions less.set short v i j)
        (affected_preemptions more.set long w (origin i) (origin j)) origin
        (suc i) (suc (origin i)) (jobs_of less.set j v) (jobs_of more.set (origin j) w) order le
        (λ k l. affected_from j k h l)
        (jobs_from j v w (omega arith) room)

    pub evicted_le : (j c : ℕ) → j < i → evicted_from less.parts j c ≡ true
        → evicted_from more.parts (origin j) c ≡ true
    evicted_le j c h =
        evicted_origin less.parts more.parts origin (length less.set.tasks)
        (length more.set.tasks) j c D.order (omega arith) (λ k l. (D.parts k l).evicting)

    ecb_from : (j : ℕ) → j < i
        → ecb_count less.set less.parts short v i j
        ≤ ecb_count more.set more.parts long w (origin i) (origin j)
    ecb_from j h =
        choice_le j (shared_sets less.parts j) (shared_sets more.parts (origin j)) h
        (λ k l. shared_le (has (less.parts k).useful) (has (more.parts (origin k)).useful)
        (evicted_from less.parts j) (evicted_from more.parts (origin j)) 512
        ((D.parts k (omega arith)).useful) (λ c. evicted_le j c h))

    pub gamma_from : (method : Method) (j : ℕ) → j < i
        → gamma less.set less.parts short v method i j
        ≤ gamma more.set more.parts long w method (origin i) (origin j)
    gamma_from Ucb j h =
        mul-le less.set.platform.miss (ucb_count less.set less.parts short v i j)
        more.set.platform.miss (ucb_count more.set more.parts long w (origin i) (origin j))
        D.platform.miss (ucb_from j h)
    gamma_from Ecb j h =
        mul-le less.set.platform.miss (ecb_count less.set less.parts short v i j)
        more.set.platform.miss (ecb_count more.set more.parts long w (origin i) (origin j))
        D.platform.miss (ecb_from j h)

    jobs_demand_from : (j : ℕ) → j < i
        → jobs_demand less.set less.parts v j ≤ jobs_demand more.set more.parts w (origin j)
    jobs_demand_from j h =
        let s = D.platform.switch in
        let c = (D.parts j (omega arith)).bound in
        mul-le (jobs_of less.set j v)
        ((less.parts j).bound + (less.set.platform.switch + less.set.platform.switch))
        (jobs_of more.set (origin j) w)
        ((more.parts (origin j)).bound + (more.set.platform.switch + more.set.platform.switch))
        (jobs_from j v w (omega arith) room) (omega (arith, s, c))

    begun : blocking less.set.platform.switching less.longest i (length less.set.tasks)
        ≤ blocking more.set.platform.switching more.longest (origin i) (length more.set.tasks)
    begun =
        subst (λ (m : Switching).
        blocking less.set.platform.switching less.longest i (length less.set.tasks)
        ≤ blocking m more.longest (origin i) (length more.set.tasks)) D.platform.switching
        (blocking_le less.set.platform.switching less.longest more.longest origin
        (length less.set.tasks) (length more.set.tasks) i D.order D.longest)

    -- the demand, by any delays of which none is longer
    pub demand_by_from : (delay longer : ℕ → ℕ) → ((j : ℕ) → j < i → delay j ≤ longer (origin j))
        → demand_by less.set less.parts less.longest i delay v
        ≤ demand_by more.set more.parts more.longest (origin i) longer w
    demand_by_from delay longer le =
        let sums = sum_from (λ j. jobs_demand less.set less.parts v j + delay j)
        (λ j. jobs_demand more.set more.parts w j + longer j) origin i (origin i)
        (order_before origin i (suc (origin i)) order)
        (λ j h. let a = jobs_demand_from j h in let b = le j h in omega (arith, a, b)) in
        let own = (D.parts i is).bound in
        let s = D.platform.switch in
        let b = begun in
        omega (arith, sums, own, s, b)

    -- with the multiset delays
    pub demand_from : (method : Method)
        → demand less.set less.parts less.longest short i method v
        ≤ demand more.set more.parts more.longest long (origin i) method w
    demand_from method =
        demand_by_from (gamma less.set less.parts short v method i)
        (gamma more.set more.parts long w method (origin i)) (gamma_from method)
