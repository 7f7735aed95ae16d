-- The demand with parts whose bounds include the reloads.
use Rattle.std.proofs.Common.{◌≡◌, ℕ, zero, suc, ◌+◌, ◌*◌, ◌<◌, ◌≤◌, inl, inr, List, [], length}
use Rattle.std.proofs.Common.{set as list_set, replicate, refl, sym, ◌∙◌, ap, subst, arith, false}
use Rattle.std.proofs.Common.{◌^◌, Bool, if◌then◌else◌, slice_index}
use Rattle.std.proofs.lemmas.Nat.{mul-le}
use Rattle.std.proofs.lemmas.Bool.{cases_Bool, cases_eq, cases_lt}
use Rattle.std.proofs.lemmas.List.{get_or-replicate, get_or_past, length-replicate, get_or-set_same}
use Rattle.std.proofs.lemmas.List.{get_or-set_other}
use Rattle.crpd_base.proofs.Sums.{sum_same}
use Rattle.crpd_base.specs.declared.data.TaskSet.{TaskSet}
use Rattle.crpd_base.specs.declared.data.Part.{Part}
use Rattle.crpd_base.specs.declared.data.Method.{Method}
use Rattle.crpd_base.specs.declared.data.Method.TheVariants.{Ucb, Ecb}
use Rattle.crpd_base.specs.Sets.{member, has}
use Rattle.crpd_base.specs.Sum.{sum_below}
use Rattle.crpd_base.specs.Tasks.{jitter_of, deadline_of}
use Rattle.delay_count.specs.Counts.{jobs_of, affected_preemptions, HasWindows}
use Rattle.delay_count.specs.Gamma.{part_at, union_count, shared_sets, evicted_from, ucb_count}
use Rattle.delay_count.specs.Gamma.{ecb_count}
use Rattle.delay_count.specs.Demand.{gamma, own_demand, jobs_demand, higher_demand, demand}
use Rattle.delay_classic.specs.Gamma.{useful_to_some, classic_gamma}
use Rattle.delay_classic.specs.Inner.Charged.{classic_sets, IsCharged, AreCharged}
use Rattle.delay_classic.specs.Demand.{classic_demand}
use Rattle.delay_count.proofs.Greatest.{greatest_none}
use Rattle.delay_count.proofs.Choices.{choice_within}
use Rattle.delay_classic.proofs.Useful.{some_none, shared_none}
use Rattle.delay_classic.proofs.Lists.{sets_few}

abbrev no_part : Part
no_part = record { bound = 0; evicting = []; useful = [] }

-- no delay if no set is useful
nothing_shared : (useful : ℕ → ℕ → Bool) (count : ℕ → ℕ) (n c : ℕ)
    → ((k : ℕ) → k < n → useful k c ≡ false)
    → sum_below (λ k. if useful k c then count k else 0) n ≡ 0
nothing_shared useful count zero c h = refl
nothing_shared useful count (suc n) c h =
    let b = h n (omega arith) in
    let rest = nothing_shared useful count n c (λ k l. h k (omega arith)) in
    rw b (omega (arith, rest))

no_union : (jobs : ℕ) (evicts : ℕ → Bool) (useful : ℕ → ℕ → Bool) (count : ℕ → ℕ) (n sets : ℕ)
    → ((k c : ℕ) → k < n → useful k c ≡ false) → union_count jobs evicts useful count n sets ≡ 0
unfolding union_count
no_union jobs evicts useful count n zero h = refl
no_union jobs evicts useful count n (suc c) h =
    let rest = no_union jobs evicts useful count n c h in
    let z = nothing_shared useful count n c (λ k l. h k c l) in
    elim (cases_Bool (evicts c)) [
      | inl b ↦ rw (b, z) (omega (arith, rest))
      | inr b ↦ rw b (omega (arith, rest))
    ]

no_gamma : (set : TaskSet) (parts : ℕ → Part) (window : ℕ → ℕ) (w : ℕ) (method : Method) (i j : ℕ)
    → ((k c : ℕ) → k ≤ i → has (parts k).useful c ≡ false) → gamma set parts window w method i j ≡ 0
no_gamma set parts window w Ucb i j h =
    let z : ucb_count set parts window w i j ≡ 0 =
    no_union (jobs_of set j w) (has (parts j).evicting) (λ k. has (parts k).useful)
    (affected_preemptions set window w i j) (suc i) 512 (λ k c l. h k c (omega arith)) in
    ap (λ x. set.platform.miss * x) z ∙ omega arith
no_gamma set parts window w Ecb i j h =
    let most = choice_within (shared_sets parts j) (affected_preemptions set window w i j) 0 (suc i)
    (jobs_of set j w) (λ k l.
    let z = shared_none (has (parts k).useful) (evicted_from parts j) 512
    (λ c. h k c (omega arith)) in inr (omega (arith, z))) in
    let z : ecb_count set parts window w i j ≡ 0 = omega (arith, most) in
    ap (λ x. set.platform.miss * x) z ∙ omega arith

-- no reloads by a task in its own window
own_sets : (parts : ℕ → Part) (method : Method) (i : ℕ) → classic_sets parts method i i ≡ 0
own_sets parts Ucb i =
    shared_none (useful_to_some (λ k. has (parts k).useful) (suc i) (suc i))
    (has (parts i).evicting) 512
    (λ c. some_none (λ k. has (parts k).useful) (suc i) (suc i) c (omega arith))
own_sets parts Ecb i = greatest_none (shared_sets parts i) (suc i) (suc i) (omega arith)

gamma_is : (set : TaskSet) (parts : ℕ → Part) (w : ℕ) (method : Method) (i j : ℕ)
    → classic_gamma set parts w method i j
    ≡ set.platform.miss * jobs_of set j w * classic_sets parts method i j
gamma_is set parts w Ucb i j = refl
gamma_is set parts w Ecb i j = refl

module _ (set : TaskSet) (parts charged : ℕ → Part) (longest window : ℕ → ℕ) (i : ℕ)
    (method : Method) (C : AreCharged set.platform.miss parts method i charged) where
  own_same : own_demand set charged longest i ≡ own_demand set parts longest i
  own_same =
      let b = (C i (omega arith)).bound in
      let z : set.platform.miss * classic_sets parts method i i ≡ 0 =
      ap (λ x. set.platform.miss * x) (own_sets parts method i) ∙ omega arith in
      omega (arith, b, z)

  higher_same : (w j : ℕ) → j < i
      → higher_demand set charged window w method i j
      ≡ jobs_demand set parts w j + classic_gamma set parts w method i j
  higher_same w j h =
      let b = (C j (omega arith)).bound in
      let z = no_gamma set charged window w method i j (λ k c l. (C k l).useful c) in
      let g = gamma_is set parts w method i j in
      let jobs : jobs_of set j w * ((charged j).bound + (set.platform.switch + set.platform.switch))
      ≡ jobs_of set j w * ((parts j).bound + set.platform.miss * classic_sets parts method i j
      + (set.platform.switch + set.platform.switch)) =
      ap (λ x. jobs_of set j w * (x + (set.platform.switch + set.platform.switch))) b in
      omega (arith, z, g, jobs)

  pub demand_same : (w : ℕ)
      → demand set charged longest window i method w ≡ classic_demand set parts longest i method w
  demand_same w =
      let sums = sum_same (higher_demand set charged window w method i)
      (λ j. jobs_demand set parts w j + classic_gamma set parts w method i j) i
      (λ j h. higher_same w j h) in
      let own = own_same in
      omega (arith, sums, own)

-- empty windows are windows of higher tasks, if these have jitters within their deadlines
abbrev pub nothing : ℕ → List ℕ
nothing n = replicate n 0

nothing_long : (n : ℕ) → length (nothing n) ≡ n
nothing_long n = length-replicate n 0

nothing_at : (n k : ℕ) → slice_index (nothing n) k ≡ 0
nothing_at n k =
    elim (cases_lt k n) [
      | inr l ↦ get_or_past (nothing n) k 0 (omega (arith, nothing_long n, l))
      | inl l ↦ get_or-replicate n k 0 0 l
    ]

pub no_windows : (set : TaskSet) (n i : ℕ) → i ≤ n
    → ((k : ℕ) → k < i → jitter_of set k ≤ deadline_of set k) → HasWindows set (nothing n) i
no_windows set n i h less =
    record {
      tasks = omega (arith, nothing_long n);
      most = λ k l. omega (arith, nothing_at n k);
      in_deadline = λ k l. let z = nothing_at n k in let d = less k l in omega (arith, z, d);
    }

-- one more part
pub charged_more : (miss : ℕ) (parts : ℕ → Part) (method : Method) (i : ℕ) (charged : List Part)
    (k : ℕ) (p : Part) → k < length charged
    → ((j : ℕ) → j < k → IsCharged miss parts method i j (part_at charged j))
    → IsCharged miss parts method i k p
    → (j : ℕ) → j < k + 1 → IsCharged miss parts method i j (part_at (list_set charged k p) j)
charged_more miss parts method i charged k p room before here j h =
    elim (cases_eq j k) [
      | inl e ↦
          subst (λ x. IsCharged miss parts method i x (part_at (list_set charged k p) x)) (sym e)
          (subst (IsCharged miss parts method i k)
          (sym (get_or-set_same charged k p no_part room)) here)
      | inr ne ↦
          subst (IsCharged miss parts method i j) (sym (get_or-set_other charged k j p no_part ne))
          (before j (omega arith))
    ]

pub not_member : (words : List ℕ) (c : ℕ) → member words c ≡ 0 → has words c ≡ false
not_member words c e = rw e refl

-- the reloads of a job are in range
pub reloads_few : (parts : ℕ → Part) (method : Method) (i j miss result : ℕ) → miss < 2 ^ 32
    → result ≡ miss * classic_sets parts method i j → result ≤ 2 ^ 41
reloads_few parts method i j miss result m is =
    omega (
      arith,
      is,
      mul-le miss (classic_sets parts method i j) (2 ^ 32) 512 (omega arith)
          (sets_few parts method i j),
    )
