-- The delays over shares, and those of the tasks of a set.
use Rattle.std.proofs.Common.{◌≡◌, ℕ, suc, ◌+◌, ◌*◌, ◌<◌, ◌≤◌, ◌^◌, List, [], take, length, inr}
use Rattle.std.proofs.Common.{refl, ◌∙◌, ap, arith, Bool, min, ◌&&◌, if◌then◌else◌}
use Rattle.std.proofs.lemmas.List.{length-take-le}
use Rattle.std.proofs.lemmas.Nat.{mul-le}
use Rattle.crpd_base.proofs.Sums.{sum_same}
use Rattle.crpd_base.specs.Sum.{sum_below}
use Rattle.crpd_base.specs.Sets.{has}
use Rattle.crpd_base.specs.declared.data.TaskSet.{TaskSet}
use Rattle.crpd_base.specs.declared.data.Part.{Part}
use Rattle.crpd_base.specs.declared.data.Method.{Method}
use Rattle.crpd_base.specs.declared.data.Method.TheVariants.{Ucb, Ecb}
use Rattle.delay_count.specs.declared.share.Share.{Share}
use Rattle.delay_count.specs.Counts.{jobs_of, affected_preemptions}
use Rattle.delay_count.specs.Gamma.{union_count, shared_count, greatest_choice, set_share, count_at}
use Rattle.delay_count.specs.Gamma.{useful_at, ucb_delay, ecb_delay, shared_sets, evicted_from}
use Rattle.delay_count.specs.Demand.{gamma}
use Rattle.delay_count.specs.Laws.{UcbOfShares, EcbOfShares}
use Rattle.delay_count.specs.Inner.Rates.{gamma_by}
use Rattle.delay_count.proofs.Bits.{union_fits, shared_most}
use Rattle.delay_count.proofs.Choices.{choice_same, choice_le, choice_within}
use Rattle.delay_count.proofs.Shares.{first_same}

pub union_same : (jobs : ℕ) (evicts : ℕ → Bool) (useful useful' : ℕ → ℕ → Bool)
    (count count' : ℕ → ℕ) (n sets : ℕ)
    → ((k c : ℕ) → k < n → useful k c ≡ useful' k c) → ((k : ℕ) → k < n → count k ≡ count' k)
    → union_count jobs evicts useful count n sets ≡ union_count jobs evicts useful' count' n sets
unfolding union_count
union_same jobs evicts useful useful' count count' n sets u c =
    sum_same (λ s. if evicts s then set_share jobs useful count n s else 0)
    (λ s. if evicts s then set_share jobs useful' count' n s else 0) sets (λ s l.
    let inner : sum_below (λ k. if useful k s then count k else 0) n
    ≡ sum_below (λ k. if useful' k s then count' k else 0) n =
    sum_same (λ k. if useful k s then count k else 0) (λ k. if useful' k s then count' k else 0) n
    (λ k h. let e = u k s h in let f = c k h in rw (e, f) refl) in
    ap (λ x. if evicts s then min jobs x else 0) inner)

pub shared_same : (useful useful' evicted evicted' : ℕ → Bool) (sets : ℕ)
    → ((c : ℕ) → useful c ≡ useful' c) → ((c : ℕ) → evicted c ≡ evicted' c)
    → shared_count useful evicted sets ≡ shared_count useful' evicted' sets
unfolding shared_count
shared_same useful useful' evicted evicted' sets u e =
    sum_same (λ c. if useful c && evicted c then 1 else 0) (λ c. if useful' c && evicted' c then 1
    else 0) sets (λ c l. let p = u c in let q = e c in rw (p, q) refl)

counts_same : (value count count' : ℕ → ℕ) (n budget : ℕ) → ((k : ℕ) → k < n → count k ≡ count' k)
    → greatest_choice value count n budget ≡ greatest_choice value count' n budget
counts_same value count count' n budget h =
    let a = choice_le value value count count' n budget budget (λ k l. omega arith)
    (λ k l. omega (arith, h k l)) (omega arith) in
    let b = choice_le value value count' count n budget budget (λ k l. omega arith)
    (λ k l. omega (arith, h k l)) (omega arith) in
    omega (arith, a, b)

-- the delays over the shares of the tasks down to i, by how often the jobs of each may be preempted
module _ {W : ℕ} (parts : ℕ → Part) (i j : ℕ) (lower : List (Share W)) (count : ℕ → ℕ)
    (size : length lower ≡ suc i) (counts : (k : ℕ) → k < suc i → count_at lower k ≡ count k)
    (useful : (k c : ℕ) → k < suc i → useful_at lower k c ≡ has (parts k).useful c)
    (miss jobs : ℕ) where
  pub ucb_by : ucb_delay miss jobs (parts j).evicting lower 512
      ≡ gamma_by Ucb miss parts count jobs i j
  ucb_by =
      ap (λ z. miss * union_count jobs (has (parts j).evicting) (useful_at lower)
      (count_at lower) z 512) size
      ∙ ap (λ z. miss * z)
      (union_same jobs (has (parts j).evicting) (useful_at lower) (λ k. has (parts k).useful)
      (count_at lower) count (suc i) 512 useful counts)

  pub ecb_by : (up : List ℕ) → ((c : ℕ) → has up c ≡ evicted_from parts j c)
      → ecb_delay miss jobs up lower 512 ≡ gamma_by Ecb miss parts count jobs i j
  ecb_by up f =
      let values : (k : ℕ) → k < suc i
      → shared_count (useful_at lower k) (has up) 512 ≡ shared_sets parts j k =
      λ k h. shared_same (useful_at lower k) (has (parts k).useful) (has up) (evicted_from parts j)
      512 (λ c. useful k c h) f in
      ap (λ z. miss * greatest_choice (λ k. shared_count (useful_at lower k) (has up) 512)
      (count_at lower) z jobs) size
      ∙ ap (λ z. miss * z)
      (choice_same (λ k. shared_count (useful_at lower k) (has up) 512) (shared_sets parts j)
      (count_at lower) (suc i) jobs values
      ∙ counts_same (shared_sets parts j) (count_at lower) count (suc i) jobs counts)

module _ (parts : ℕ → Part) (i j : ℕ) (shares : List (Share 8)) (size : length shares ≡ 32)
    (few : i < 32)
    (useful : (k c : ℕ) → k ≤ i → useful_at shares k c ≡ has (parts k).useful c) where
  abbrev lower : List (Share 8)
  lower = take (i + 1) shares

  pub lower_length : length lower ≡ i + 1
  lower_length = length-take-le (i + 1) shares (omega arith)

  pub lower_count : (k : ℕ) → k < suc i → count_at lower k ≡ count_at shares k
  lower_count k h = first_same (λ (s : Share 8). s.count) shares (i + 1) k 0 (omega arith)

  pub lower_in_range : ((k : ℕ) → k ≤ i → count_at shares k < 2 ^ 81)
      → (length lower ≤ 32) × ((k : ℕ) → k < length lower → count_at lower k < 2 ^ 81)
  lower_in_range counts = (
    omega (arith, lower_length),
    λ k l. omega (
      arith,
      lower_count k (omega (arith, lower_length)),
      counts k (omega (arith, lower_length)),
    ),
  )

  pub lower_useful : (k c : ℕ) → k < suc i → useful_at lower k c ≡ has (parts k).useful c
  lower_useful k c h =
      ap (λ z. has z c) (first_same (λ (s : Share 8). s.useful) shares (i + 1) k [] (omega arith))
      ∙ useful k c (omega arith)

  same_length : length lower ≡ suc i
  same_length = lower_length ∙ omega arith

  pub is_ucb : (miss jobs : ℕ) (evicting : List ℕ) (result : ℕ) → evicting ≡ (parts j).evicting
      → result ≡ ucb_delay miss jobs evicting lower 512
      → result ≡ gamma_by Ucb miss parts (count_at shares) jobs i j
  is_ucb miss jobs evicting result f is =
      is
      ∙ ap (λ z. ucb_delay miss jobs z lower 512) f
      ∙ ucb_by parts i j lower (count_at shares) same_length lower_count lower_useful miss jobs

  pub is_ecb : (miss jobs : ℕ) (up : List ℕ) (result : ℕ)
      → ((c : ℕ) → has up c ≡ evicted_from parts j c) → result ≡ ecb_delay miss jobs up lower 512
      → result ≡ gamma_by Ecb miss parts (count_at shares) jobs i j
  is_ecb miss jobs up result f is =
      is ∙ ecb_by parts i j lower (count_at shares) same_length lower_count lower_useful miss jobs
      up f

-- the delay of a window is one by counts of jobs
pub gamma_from : (set : TaskSet) (parts : ℕ → Part) (window count : ℕ → ℕ) (w i j jobs : ℕ)
    (method : Method) → jobs ≡ jobs_of set j w
    → ((k : ℕ) → k ≤ i → count k ≡ affected_preemptions set window w i j k)
    → gamma_by method set.platform.miss parts count jobs i j ≡ gamma set parts window w method i j
gamma_from set parts window count w i j jobs Ucb e same =
    ap (λ z. set.platform.miss * union_count z (has (parts j).evicting) (λ k. has (parts k).useful)
    count (suc i) 512) e
    ∙ ap (λ z. set.platform.miss * z)
    (union_same (jobs_of set j w) (has (parts j).evicting) (λ k. has (parts k).useful)
    (λ k. has (parts k).useful) count (affected_preemptions set window w i j) (suc i) 512
    (λ k c h. refl) (λ k h. same k (omega arith)))
gamma_from set parts window count w i j jobs Ecb e same =
    ap (λ z. set.platform.miss * greatest_choice (shared_sets parts j) count (suc i) z) e
    ∙ ap (λ z. set.platform.miss * z)
    (counts_same (shared_sets parts j) count (affected_preemptions set window w i j) (suc i)
    (jobs_of set j w) (λ k h. same k (omega arith)))

-- and so are the delays over the shares of the window's tasks
pub ucb_of_shares : UcbOfShares
ucb_of_shares W set parts window w i j lower S =
    ucb_by parts i j lower (affected_preemptions set window w i j) S.tasks
    (λ k h. S.counts k (omega arith)) (λ k c h. S.useful k c (omega arith)) set.platform.miss
    (jobs_of set j w)

pub ecb_of_shares : EcbOfShares
ecb_of_shares W set parts window w i j lower up S u =
    ecb_by parts i j lower (affected_preemptions set window w i j) S.tasks
    (λ k h. S.counts k (omega arith)) (λ k c h. S.useful k c (omega arith)) set.platform.miss
    (jobs_of set j w) up u

-- neither delay is out of range
pub ucb_fits : (miss jobs result : ℕ) (evicting : List ℕ) (lower : List (Share 8)) → miss < 2 ^ 32
    → jobs < 2 ^ 64 → result ≡ ucb_delay miss jobs evicting lower 512 → result ≤ 2 ^ 112
ucb_fits miss jobs result evicting lower m j is =
    let most = union_fits jobs (length lower) 512
    (union_count jobs (has evicting) (useful_at lower) (count_at lower) (length lower) 512) evicting
    lower j (omega arith) refl in
    omega (
      arith,
      is,
      mul-le miss
          (union_count jobs (has evicting) (useful_at lower) (count_at lower) (length lower) 512)
          (2 ^ 32) (2 ^ 80) (omega arith) most,
    )

pub ecb_fits : (miss jobs result : ℕ) (up : List ℕ) (lower : List (Share 8)) → miss < 2 ^ 32
    → jobs < 2 ^ 64 → result ≡ ecb_delay miss jobs up lower 512 → result ≤ 2 ^ 112
ecb_fits miss jobs result up lower m j is =
    let most = choice_within (λ k. shared_count (useful_at lower k) (has up) 512)
    (count_at lower) 512 (length lower) jobs
    (λ k h. inr (shared_most (useful_at lower k) (has up) 512)) in
    omega (
      arith,
      is,
      mul-le miss
          (greatest_choice (λ k. shared_count (useful_at lower k) (has up) 512) (count_at lower)
          (length lower) jobs) (2 ^ 32) (2 ^ 80) (omega arith) (omega (arith, most)),
    )
