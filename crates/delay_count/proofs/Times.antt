-- Numbers of tasks and counts of jobs.
use Rattle.std.proofs.Common.{◌≡◌, ◌≢◌, ℕ, ◌+◌, ◌*◌, ◌<◌, ◌≤◌, ◌^◌, inl, inr, List, length, refl}
use Rattle.std.proofs.Common.{arith, false, slice_index, nat_lt}
use Rattle.std.proofs.lemmas.Nat.{mul-le}
use Rattle.std.proofs.lemmas.Bool.{cases_eq, cases_lt, eq-eqb, ne_eqb, lt-ltb, le-ltb}
use Rattle.crpd_base.specs.declared.data.TaskSet.{TaskSet}
use Rattle.crpd_base.specs.Tasks.{period_of, jitter_of, HasTimes}
use Rattle.delay_count.specs.Counts.{jobs_in, jobs_of, affected_preemptions, HasWindows}

-- at most one more job than cycles
pub jobs_few : (period jitter window : ℕ) → 1 ≤ period → jitter ≤ period
    → jobs_in period jitter window ≤ window + 1
jobs_few period jitter window some less =
    elim (cases_lt (window + 1) (jobs_in period jitter window)) [
      | inr l ↦ l
      | inl l ↦
          let many = mul-le period (window + 2) period (jobs_in period jitter window) (omega arith)
          (omega arith) in
          let one = mul-le 1 window period window some (omega arith) in
          absurd (omega (arith, many, one))
    ]

-- and not fewer in a longer window
pub jobs_grow : (period jitter window longer : ℕ) → 1 ≤ period → window ≤ longer
    → jobs_in period jitter window ≤ jobs_in period jitter longer
jobs_grow period jitter window longer some less =
    elim (cases_lt (jobs_in period jitter longer) (jobs_in period jitter window)) [
      | inr l ↦ l
      | inl l ↦
          let more = mul-le period (jobs_in period jitter longer + 1) period
          (jobs_in period jitter window) (omega arith) (omega arith) in
          absurd (omega (arith, more))
    ]

-- the jobs of a higher task that has a window
pub jobs_of_few : (set : TaskSet) (windows : List ℕ) (i j w : ℕ) → HasTimes set
    → HasWindows set windows i → i < length set.tasks → j < i → jobs_of set j w ≤ w + 1
jobs_of_few set windows i j w times has h l =
    jobs_few (period_of set j) (jitter_of set j) w (times.period j (omega arith))
    (omega (arith, has.in_deadline j l, times.deadline j (omega arith)))

pub not_affected : (set : TaskSet) (window : ℕ → ℕ) (w i j k : ℕ) → k ≤ j
    → 0 ≡ affected_preemptions set window w i j k
not_affected set window w i j k h = let b : nat_lt j k ≡ false = le-ltb j k h in rw b refl

pub affected_self : (set : TaskSet) (window : ℕ → ℕ) (w i j k : ℕ) → j < k → k ≡ i
    → affected_preemptions set window w i j k ≡ jobs_of set j w
affected_self set window w i j k h e = rw (lt-ltb j k h, eq-eqb k i e) refl

pub affected_other : (set : TaskSet) (window : ℕ → ℕ) (w i j k : ℕ) → j < k → k ≢ i
    → affected_preemptions set window w i j k ≡ jobs_of set j (window k) * jobs_of set k w
affected_other set window w i j k h ne = rw (lt-ltb j k h, ne_eqb k i ne) refl

pub affected_few : (set : TaskSet) (windows : List ℕ) (w i j k : ℕ) → HasTimes set
    → HasWindows set windows i → i < length set.tasks → j < i → k ≤ i → w ≤ 2 ^ 40
    → affected_preemptions set (slice_index windows) w i j k < 2 ^ 81
affected_few set windows w i j k times has h l lk room =
    elim (cases_lt j k) [
      | inr le ↦ omega (arith, not_affected set (slice_index windows) w i j k le)
      | inl lt ↦
          elim (cases_eq k i) [
            | inl e ↦
                omega (
                  arith,
                  affected_self set (slice_index windows) w i j k lt e,
                  jobs_of_few set windows i j w times has h l,
                )
            | inr ne ↦
                let lki : k < i = omega arith in
                let first : jobs_of set j (slice_index windows k) ≤ 2 ^ 40 + 1 =
                omega (
                  arith,
                  jobs_of_few set windows i j (slice_index windows k) times has h l,
                  has.most k lki,
                ) in
                let second : jobs_of set k w ≤ 2 ^ 40 + 1 =
                omega (arith, jobs_of_few set windows i k w times has h lki) in
                omega (
                  arith,
                  affected_other set (slice_index windows) w i j k lt ne,
                  mul-le (jobs_of set j (slice_index windows k)) (jobs_of set k w) (2 ^ 40 + 1)
                      (2 ^ 40 + 1) first second,
                )
          ]
    ]
