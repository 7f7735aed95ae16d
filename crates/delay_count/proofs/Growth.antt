-- The delays and the demand do not decrease as their inputs grow.
use Rattle.std.proofs.Common.{◌≡◌, ℕ, zero, suc, ◌+◌, ◌*◌, ◌<◌, ◌≤◌, Bool, length, refl, sym, ◌∙◌}
use Rattle.std.proofs.Common.{ap, subst, arith, inl, inr}
use Rattle.std.specs.Prelude.{map, min, nat_lt, slice_index, if◌then◌else◌}
use Rattle.std.proofs.lemmas.Nat.{mul-le}
use Rattle.std.proofs.lemmas.Bool.{cases_Bool, cases_eq, eq-eqb, ne_eqb}
use Rattle.crpd_base.proofs.Sums.{sum_le}
use Rattle.crpd_base.specs.declared.data.TaskSpec.{TaskSpec}
use Rattle.crpd_base.specs.declared.data.Part.{Part}
use Rattle.crpd_base.specs.declared.data.TaskSet.{TaskSet}
use Rattle.crpd_base.specs.declared.data.Method.{Method}
use Rattle.crpd_base.specs.declared.data.Method.TheVariants.{Ucb, Ecb}
use Rattle.crpd_base.specs.declared.data.Switching.{Switching}
use Rattle.crpd_base.specs.Sets.{has}
use Rattle.crpd_base.specs.Sum.{sum_below}
use Rattle.crpd_base.specs.Tasks.{period_of, jitter_of, HasTimes}
use Rattle.delay_count.specs.Counts.{jobs_in, jobs_of, affected_preemptions}
use Rattle.delay_count.specs.Gamma.{set_share, union_count, ucb_count, ecb_count, evicted_from}
use Rattle.delay_count.specs.Gamma.{shared_sets}
use Rattle.delay_count.specs.Demand.{blocking, gamma, demand}
use Rattle.delay_count.specs.Laws.{Load, IsCostlier, DelayGrows, DemandGrows}
use Rattle.delay_count.proofs.Greatest.{blocking_grows}
use Rattle.delay_count.proofs.Choices.{choice_le}
use Rattle.delay_count.proofs.Delays.{shared_same}
use Rattle.delay_count.proofs.Times.{jobs_grow}

min_le : (a b c d : ℕ) → a ≤ c → b ≤ d → min a b ≤ min c d
min_le a b c d h k = omega arith

pub union_le : (jobs jobs' : ℕ) (evicts evicts' : ℕ → Bool) (useful useful' : ℕ → ℕ → Bool)
    (count count' : ℕ → ℕ) (n sets : ℕ)
    → jobs ≤ jobs' → ((c : ℕ) → evicts c ≡ evicts' c)
    → ((k c : ℕ) → k < n → useful k c ≡ useful' k c) → ((k : ℕ) → k < n → count k ≤ count' k)
    → union_count jobs evicts useful count n sets ≤ union_count jobs' evicts' useful' count' n sets
unfolding union_count
union_le jobs jobs' evicts evicts' useful useful' count count' n sets j e u c =
    sum_le (λ s. if evicts s then set_share jobs useful count n s else 0)
    (λ s. if evicts' s then set_share jobs' useful' count' n s else 0) sets (λ s l.
    let inner : sum_below (λ k. if useful k s then count k else 0) n
    ≤ sum_below (λ k. if useful' k s then count' k else 0) n =
    sum_le (λ k. if useful k s then count k else 0) (λ k. if useful' k s then count' k else 0) n
    (λ k h.
    let p = u k s h in
    rw p (elim (cases_Bool (useful' k s)) [ inl b ↦ rw b (c k h) | inr b ↦ rw b (omega arith) ])) in
    let q = e s in
    rw q (elim (cases_Bool (evicts' s)) [
      | inl b ↦ rw b (min_le jobs _ jobs' _ j inner)
      | inr b ↦ rw b (omega arith)
    ]))

pub evicted_same : (p q : ℕ → Part) (j c : ℕ) → ((k : ℕ) → k ≤ j → (q k).evicting ≡ (p k).evicting)
    → evicted_from p j c ≡ evicted_from q j c
evicted_same p q zero c h = ap (λ z. has z c) (sym (h 0 (omega arith)))
evicted_same p q (suc j) c h =
    let here : has (p (suc j)).evicting c ≡ has (q (suc j)).evicting c =
    ap (λ z. has z c) (sym (h (suc j) (omega arith))) in
    let rest : evicted_from p j c ≡ evicted_from q j c =
    evicted_same p q j c (λ k l. h k (omega arith)) in
    rw (here, rest) refl

module _ (a b : Load) (i w longer : ℕ) (times : HasTimes a.set) (is : i < length a.set.tasks)
    (costlier : IsCostlier a b i) (less : w ≤ longer) where
  jobs_same : (j x : ℕ) → jobs_of b.set j x ≡ jobs_of a.set j x
  jobs_same j x =
      let p : period_of b.set j ≡ period_of a.set j =
      ap (λ t. slice_index (map (λ (k : TaskSpec). k.period) t) j) costlier.tasks in
      let q : jitter_of b.set j ≡ jitter_of a.set j =
      ap (λ t. slice_index (map (λ (k : TaskSpec). k.jitter) t) j) costlier.tasks in
      ap (λ z. jobs_in z (jitter_of b.set j) x) p ∙ ap (λ z. jobs_in (period_of a.set j) z x) q

  jobs_le : (j x y : ℕ) → j < length a.set.tasks → x ≤ y → jobs_of a.set j x ≤ jobs_of b.set j y
  jobs_le j x y h l =
      omega (
        arith,
        jobs_same j y,
        jobs_grow (period_of a.set j) (jitter_of a.set j) x y (times.period j h) l,
      )

  affected_le : (j k : ℕ) → j < i → k ≤ i
      → affected_preemptions a.set a.window w i j k
      ≤ affected_preemptions b.set b.window longer i j k
  affected_le j k h l =
      elim (cases_Bool (nat_lt j k)) [
        | inr t ↦ rw t (omega arith)
        | inl t ↦
            elim (cases_eq k i) [
              | inl e ↦ let c = eq-eqb k i e in rw (t, c) (jobs_le j w longer (omega arith) less)
              | inr ne ↦
                  let c = ne_eqb k i ne in
                  rw (
                    t,
                    c,
                  ) (mul-le (jobs_of a.set j (a.window k)) (jobs_of a.set k w)
                  (jobs_of b.set j (b.window k)) (jobs_of b.set k longer)
                  (jobs_le j (a.window k) (b.window k) (omega arith)
                  (costlier.window k (omega arith))) (jobs_le k w longer (omega arith) less))
            ]
      ]

  ucb_le : (j : ℕ) → j < i
      → ucb_count a.set a.parts a.window w i j ≤ ucb_count b.set b.parts b.window longer i j
  ucb_le j h =
      union_le (jobs_of a.set j w) (jobs_of b.set j longer) (has (a.parts j).evicting)
      (has (b.parts j).evicting) (λ k. has (a.parts k).useful) (λ k. has (b.parts k).useful)
      (affected_preemptions a.set a.window w i j) (affected_preemptions b.set b.window longer i j)
      (suc i) 512
      (jobs_le j w longer (omega arith) less)
      (λ c. ap (λ z. has z c) (sym (costlier.evicting j (omega arith))))
      (λ k c l. ap (λ z. has z c) (sym (costlier.useful k (omega arith))))
      (λ k l. affected_le j k h (omega arith))

  ecb_le : (j : ℕ) → j < i
      → ecb_count a.set a.parts a.window w i j ≤ ecb_count b.set b.parts b.window longer i j
  ecb_le j h =
      choice_le (shared_sets a.parts j) (shared_sets b.parts j)
      (affected_preemptions a.set a.window w i j) (affected_preemptions b.set b.window longer i j)
      (suc i) (jobs_of a.set j w) (jobs_of b.set j longer)
      (λ k l.
      let same : shared_sets a.parts j k ≡ shared_sets b.parts j k =
      shared_same (has (a.parts k).useful) (has (b.parts k).useful) (evicted_from a.parts j)
      (evicted_from b.parts j) 512
      (λ c. ap (λ z. has z c) (sym (costlier.useful k (omega arith))))
      (λ c. evicted_same a.parts b.parts j c (λ q m. costlier.evicting q (omega arith))) in
      omega (arith, same))
      (λ k l. affected_le j k h (omega arith))
      (jobs_le j w longer (omega arith) less)

  pub gamma_le : (j : ℕ) (method : Method) → j < i
      → gamma a.set a.parts a.window w method i j ≤ gamma b.set b.parts b.window longer method i j
  gamma_le j Ucb h =
      mul-le a.set.platform.miss (ucb_count a.set a.parts a.window w i j) b.set.platform.miss
      (ucb_count b.set b.parts b.window longer i j) costlier.miss (ucb_le j h)
  gamma_le j Ecb h =
      mul-le a.set.platform.miss (ecb_count a.set a.parts a.window w i j) b.set.platform.miss
      (ecb_count b.set b.parts b.window longer i j) costlier.miss (ecb_le j h)

  pub each_le : (method : Method) (j : ℕ) → j < i
      → jobs_of a.set j w * ((a.parts j).bound + (a.set.platform.switch + a.set.platform.switch))
      + gamma a.set a.parts a.window w method i j
      ≤ jobs_of b.set j longer
      * ((b.parts j).bound + (b.set.platform.switch + b.set.platform.switch))
      + gamma b.set b.parts b.window longer method i j
  each_le method j h =
      let s = costlier.switch in
      let c = costlier.bound j (omega arith) in
      let jobs = mul-le (jobs_of a.set j w)
      ((a.parts j).bound + (a.set.platform.switch + a.set.platform.switch)) (jobs_of b.set j longer)
      ((b.parts j).bound + (b.set.platform.switch + b.set.platform.switch))
      (jobs_le j w longer (omega arith) less) (omega arith) in
      omega (arith, jobs, gamma_le j method h)

  pub demand_le : (method : Method)
      → demand a.set a.parts a.longest a.window i method w
      ≤ demand b.set b.parts b.longest b.window i method longer
  demand_le method =
      let sums = sum_le
      (λ j. jobs_of a.set j
      w * ((a.parts j).bound + (a.set.platform.switch + a.set.platform.switch))
      + gamma a.set a.parts a.window w method i j)
      (λ j. jobs_of b.set j longer
      * ((b.parts j).bound + (b.set.platform.switch + b.set.platform.switch))
      + gamma b.set b.parts b.window longer method i j) i (each_le method) in
      let own = costlier.bound i (omega arith) in
      let s = costlier.switch in
      let n : length b.set.tasks ≡ length a.set.tasks = ap length costlier.tasks in
      let begun : blocking a.set.platform.switching a.longest i (length a.set.tasks)
      ≤ blocking b.set.platform.switching b.longest i (length b.set.tasks) =
      subst (λ (m : Switching). blocking a.set.platform.switching a.longest i (length a.set.tasks)
      ≤ blocking m b.longest i (length b.set.tasks)) (sym costlier.switching)
      (subst (λ (x : ℕ). blocking a.set.platform.switching a.longest i (length a.set.tasks)
      ≤ blocking a.set.platform.switching b.longest i x) (sym n)
      (blocking_grows a.set.platform.switching a.longest b.longest i (length a.set.tasks)
      costlier.longest)) in
      omega (arith, sums, own, s, begun)

pub delay_grows : DelayGrows
delay_grows a b i j w longer method times is h costlier less =
    gamma_le a b i w longer times is costlier less j method h

pub demand_grows : DemandGrows
demand_grows a b i w longer method times is costlier less =
    demand_le a b i w longer times is costlier less method

-- each load is as costly as itself
pub as_costly : (a : Load) (i : ℕ) → IsCostlier a a i
as_costly a i = record {
  tasks = refl;
  switching = refl;
  miss = omega arith;
  switch = omega arith;
  bound = λ k h. omega arith;
  evicting = λ k h. refl;
  useful = λ k h. refl;
  longest = λ k h. omega arith;
  window = λ k h. omega arith;
}

-- the same parts, longest costs and windows of the higher tasks
module _ (set : TaskSet) (parts others : ℕ → Part) (longest further window other : ℕ → ℕ) (i : ℕ)
    (P : (k : ℕ) → k ≤ i → parts k ≡ others k)
    (L : (k : ℕ) → k < length set.tasks → longest k ≡ further k)
    (W : (k : ℕ) → k < i → window k ≡ other k) where
  as_costly_by : IsCostlier
      (record { set = set; parts = parts; longest = longest; window = window })
      (record { set = set; parts = others; longest = further; window = other }) i
  as_costly_by = record {
    tasks = refl;
    switching = refl;
    miss = omega arith;
    switch = omega arith;
    bound = λ k h. let e = ap (λ (p : Part). p.bound) (P k h) in omega (arith, e);
    evicting = λ k h. sym (ap (λ (p : Part). p.evicting) (P k h));
    useful = λ k h. sym (ap (λ (p : Part). p.useful) (P k h));
    longest = λ k h. let e = L k h in omega (arith, e);
    window = λ k h. let e = W k h in omega (arith, e);
  }

  demand_within : HasTimes set → i < length set.tasks → (method : Method) (w : ℕ)
      → demand set parts longest window i method w ≤ demand set others further other i method w
  demand_within times is method w =
      demand_grows _ _ i w w method times is as_costly_by (omega arith)

-- have the same demand
pub demand_same : (set : TaskSet) (parts others : ℕ → Part) (longest further window other : ℕ → ℕ)
    (i : ℕ) → HasTimes set → i < length set.tasks
    → ((k : ℕ) → k ≤ i → parts k ≡ others k)
    → ((k : ℕ) → k < length set.tasks → longest k ≡ further k)
    → ((k : ℕ) → k < i → window k ≡ other k)
    → (method : Method) (w : ℕ)
    → demand set parts longest window i method w ≡ demand set others further other i method w
demand_same set parts others longest further window other i times is P L W method w =
    let le = demand_within set parts others longest further window other i P L W times
    is method w in
    let ge = demand_within set others parts further longest other window i (λ k h. sym (P k h))
    (λ k h. sym (L k h)) (λ k h. sym (W k h)) times is method w in
    omega (arith, le, ge)
