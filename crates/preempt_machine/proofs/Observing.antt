-- The fetches that an observer receives are those of the run.
use Rattle.std.proofs.Common.{◌≡◌, ◌↔◌, ℕ, zero, suc, ◌+◌, ◌-◌, ◌<◌, ◌≤◌, ◌⊎◌, ◌==◌, Bool, true}
use Rattle.std.proofs.Common.{false, List, length, length-set, Option, Some, None, refl, sym, ◌∙◌}
use Rattle.std.proofs.Common.{ap, subst, inl, inr, arith, get_or-set_same, get_or-set_other}
use Rattle.std.proofs.Common.{slice_set, is_some, not, IsTrue}
use Rattle.std.proofs.lemmas.Bool.{cases_Bool, cases_eq, cases_lt}
use Rattle.std.proofs.lemmas.Bool.Decides.{nat_tests}
use Rattle.std.proofs.lemmas.List.{get_or_default, set-get_or}
use Rattle.crpd_base.specs.declared.data.Platform.{Platform}
use Rattle.rv_decode.specs.declared.Ins.{Ins}
use Rattle.icache.specs.Cache.{block_of, is_hit, set_of}
use Rattle.flow_watch.specs.Watch.{is_unbroken}
use Rattle.preempt_machine.specs.Machine.{System, Job, Machine, ins_at, job_at, no_job}
use Rattle.preempt_machine.specs.Observed.{IsObservation}
use Rattle.preempt_machine.specs.Safe.{IsKept}
use Rattle.preempt_machine.specs.Step.{candidate, fetch, fetch_at, fetch_by, is_open, is_ready, run}
use Rattle.preempt_machine.specs.Step.{state, Fetch, Start, Turn, turn_of, turn_after_fetch}
use Rattle.preempt_machine.specs.Stretch.{with_cycles_used, NoRelease}
use Rattle.preempt_machine.specs.Inner.Moves.{turn_after_steps, turn_fetch, AreTurnsAt, HasMoved}
use Rattle.preempt_machine.specs.Inner.Moves.{IsTurnAt}
use Rattle.preempt_machine.proofs.Candidates.{none_candidate}
use Rattle.preempt_machine.proofs.Runs.{run_more}
use Rattle.preempt_machine.proofs.Steps.{candidate_some}
use Rattle.preempt_machine.proofs.Watches.{turned_watch, unbroken_before}
use Rattle.preempt_machine.proofs.StretchLaws.{idle_law, left_by, owner_keeps_in, run_by, stays_by}
use Rattle.preempt_machine.proofs.StretchLaws.{turn_again, IsStretch}
use Rattle.preempt_machine.proofs.TurnsInARow.{counts, switches, turned_more}

-- steps without a fetch are observed
pub passed : (s : Start) (Seen : ℕ → Type 0)
    → ((n : ℕ) → fetch_at s n ≡ None → Seen n → Seen (suc n)) → (n k : ℕ)
    → ((j : ℕ) → j < k → fetch_at s (n + j) ≡ None) → Seen n → Seen (n + k)
passed s Seen passes n zero none seen =
    let e : n ≡ n + 0 = omega arith in subst Seen e seen
passed s Seen passes n (suc k) none seen =
    let e : suc (n + k) ≡ n + suc k = omega arith in
    subst Seen e
    (passes (n + k) (none k (omega arith))
    (passed s Seen passes n k (λ j l. none j (omega arith)) seen))

pub passed_to : (s : Start) (Seen : ℕ → Type 0)
    → ((n : ℕ) → fetch_at s n ≡ None → Seen n → Seen (suc n)) → (n m : ℕ) → n ≤ m
    → ((t : ℕ) → n ≤ t → t < m → fetch_at s t ≡ None) → Seen n → Seen m
passed_to s Seen passes n m l none seen =
    let e : n + (m - n) ≡ m = omega arith in
    subst Seen e
    (passed s Seen passes n (m - n) (λ j b. none (n + j) (omega arith) (omega arith)) seen)

-- a watch that is not broken after turns was not broken before them
pub turned_unbroken : (sys : System) (n : ℕ) (t : Turn) (k : ℕ)
    → is_unbroken (turn_after_steps sys n t k).job.watch ≡ true → is_unbroken t.job.watch ≡ true
turned_unbroken sys n t zero h = h
turned_unbroken sys n t (suc k) h =
    turned_unbroken sys n t k
    (unbroken_before (turn_after_steps sys n t k).job.watch
    (turn_after_steps sys n t (suc k)).job.watch
    (turned_watch sys (n + k) (turn_after_steps sys n t k)) h)

pub moved_unbroken : (sys : System) (a b : ℕ) (t u : Turn) → HasMoved sys a b t u
    → is_unbroken u.job.watch ≡ true → is_unbroken t.job.watch ≡ true
moved_unbroken sys a b t u h k =
    turned_unbroken sys a t (b - a) (ap (λ (x : Turn). is_unbroken x.job.watch) (sym h.turn) ∙ k)

-- turns that are steps of a run, after a move
pub turns_on : (s : Start) (place from mid until : ℕ) (t u : Turn) (kept now : Bool)
    → HasMoved s.system from mid t u
    → (IsTrue now ↔ (IsTrue kept × (is_unbroken u.job.watch ≡ true)))
    → AreTurnsAt s place from until t kept → AreTurnsAt s place mid until u now
turns_on s place from mid until t u kept now h flag all k less opens =
    let sys = s.system in
    let d = mid - from in
    let at : from + d ≡ mid = omega (arith, h.later) in
    let more : (j : ℕ) → turn_after_steps sys from t (d + j) ≡ turn_after_steps sys mid u j = λ j.
    turned_more sys from t d j
    ∙ ap (λ x. turn_after_steps sys x (turn_after_steps sys from t d) j) at
    ∙ ap (λ x. turn_after_steps sys mid x j) (sym h.turn) in
    let time : from + (d + k) ≡ mid + k = omega (arith, at) in
    let before : (j : ℕ) → j ≤ d + k
    → is_open (turn_after_steps sys from t j).job.standing ≡ true = λ j l.
    elim (cases_lt j d) [
      | inl b ↦ h.open_before j b
      | inr g ↦
          let i = j - d in
          let e : d + i ≡ j = omega (arith, g) in
          subst (λ x. is_open (turn_after_steps sys from t x).job.standing ≡ true) e
          (ap (λ (x : Turn). is_open x.job.standing) (more i) ∙ opens i (omega arith))
    ] in
    let T = all (d + k) (omega (arith, time, less)) before in
    let there : IsTurnAt s place (mid + k) (turn_after_steps sys mid u k) kept =
    subst (λ n. IsTurnAt s place n (turn_after_steps sys mid u k) kept) time
    (subst (λ x. IsTurnAt s place (from + (d + k)) x kept) (more k) T) in
    record {
      fetch = there.fetch;
      cache = there.cache;
      watches = (
        λ K.
            let both = there.watches.0 K in
            (flag.1 (both.0, turned_unbroken sys mid u k both.1), both.1),
        λ both. there.watches.1 ((flag.0 both.0).0, both.1),
      );
    }

-- whether a state is kept after turns of a job
kept_place : (m : Machine) (x : ℕ) → x < length m.jobs → IsKept m
    → is_unbroken (job_at m.jobs x).watch ≡ true
kept_place m x h k = k x no_job h

kept_places : (m : Machine)
    → ((x : ℕ) → x < length m.jobs → is_unbroken (job_at m.jobs x).watch ≡ true) → IsKept m
kept_places m each = λ x d h.
    subst (λ (j : Job). is_unbroken j.watch ≡ true) (get_or_default m.jobs x no_job d h) (each x h)

pub kept_set : (m n : Machine) (i : ℕ) (job : Job) → i < length m.jobs
    → n.jobs ≡ slice_set m.jobs i job
    → (is_unbroken job.watch ≡ true → is_unbroken (job_at m.jobs i).watch ≡ true)
    → (IsKept n ↔ (IsKept m × (is_unbroken job.watch ≡ true)))
kept_set m n i job below e before =
    let own : job_at n.jobs i ≡ job =
    ap (λ (js : List Job). job_at js i) e ∙ get_or-set_same m.jobs i job no_job below in
    let other : (x : ℕ) → (x ≡ i → ⊥) → job_at n.jobs x ≡ job_at m.jobs x = λ x ne.
    ap (λ (js : List Job). job_at js x) e ∙ get_or-set_other m.jobs i x job no_job ne in
    let long : length n.jobs ≡ length m.jobs =
    ap (λ (js : List Job). length js) e ∙ length-set m.jobs i job in (
      λ K.
          let now : is_unbroken job.watch ≡ true =
          ap (λ (j : Job). is_unbroken j.watch) (sym own)
          ∙ kept_place n i (omega (arith, below, long)) K in (
            kept_places m (λ x h. elim (cases_eq x i) [
              | inl q ↦ ap (λ y. is_unbroken (job_at m.jobs y).watch) q ∙ before now
              | inr ne ↦
                  ap (λ (j : Job). is_unbroken j.watch) (sym (other x ne))
                  ∙ kept_place n x (omega (arith, h, long)) K
            ]),
            now,
          ),
      λ both.
          kept_places n (λ x h. elim (cases_eq x i) [
            | inl q ↦
                ap (λ y. is_unbroken (job_at n.jobs y).watch) q
                ∙ ap (λ (j : Job). is_unbroken j.watch) own ∙ both.1
            | inr ne ↦
                ap (λ (j : Job). is_unbroken j.watch) (other x ne)
                ∙ kept_place m x (omega (arith, h, long)) both.0
          ]),
    )

-- states of a run, and those after more steps
pub later_state : (s : Start) (m : Machine) (k : ℕ) → m ≡ state s m.time
    → state s (m.time + k) ≡ run s.system m k
later_state s m k e =
    sym (run_more s.system (state s 0) m.time k) ∙ ap (λ x. run s.system x k) (sym e)

-- the state before a step of a stretch, by the turns before it
before_step : (sys : System) (m : Machine) (i k j : ℕ) → i < length m.jobs → IsStretch sys m i k
    → j ≤ k
    → ((run sys m j).jobs
    ≡ slice_set m.jobs i (turn_after_steps sys m.time (turn_of sys m i) j).job)
    × (turn_of sys (run sys m j) i ≡ turn_after_steps sys m.time (turn_of sys m i) j)
before_step sys m i k zero below s l = (sym (set-get_or m.jobs i no_job), refl)
before_step sys m i k (suc j) below s l =
    let t = turn_after_steps sys m.time (turn_of sys m i) (suc j) in
    let e = run_by sys m i k s (suc j) (omega arith) l in (
      ap (λ (x : Machine). x.jobs) e,
      ap (λ x. turn_of sys x i) e ∙ turn_again sys m i (suc j) t below,
    )

-- the steps of a candidate are turns of its job
pub turns_at : (s : Start) (m : Machine) (i until : ℕ) (kept : Bool) → m ≡ state s m.time
    → candidate s.system m ≡ Some i → ((k : ℕ) → m.time + k ≤ until → NoRelease m k)
    → (owner_keeps_in s.system m ≡ true → until ≤ m.time + (job_at m.jobs i).left)
    → (IsTrue kept ↔ IsKept m) → AreTurnsAt s i m.time until (turn_of s.system m i) kept
turns_at s m i until kept e c none reach flag k less opens =
    let sys = s.system in
    let t = turn_of sys m i in
    let u = turn_after_steps sys m.time t k in
    let below = (candidate_some sys m i c).below in
    let stretch : IsStretch sys m i (suc k) = record {
      is_candidate = c;
      none = none (suc k) (omega arith);
      open_before = λ j l. opens j (omega arith);
      under_way = λ keep j l. omega (arith, left_by sys m.time t j, reach keep);
    } in
    let n = run sys m k in
    let there : state s (m.time + k) ≡ n = later_state s m k e in
    let both = before_step sys m i (suc k) k below stretch (omega arith) in
    let fetched : fetch sys n ≡ turn_fetch sys i u =
    ap (fetch_by sys n) (stays_by sys m i (suc k) stretch k (omega arith))
    ∙ ap (turn_fetch sys i) both.1 in
    let watches = kept_set m n i u.job below both.0 (turned_unbroken sys m.time t k) in
    record {
      fetch = ap (fetch sys) there ∙ fetched;
      cache = ap (λ (x : Machine). x.cache) there ∙ ap (λ (x : Turn). x.cache) both.1;
      watches = (
        λ K. let two = watches.0 (subst IsKept there K) in (flag.1 two.0, two.1),
        λ two. subst IsKept (sym there) (watches.1 (flag.0 two.0, two.1)),
      );
    }

-- nothing is fetched while no job is ready
pub idle_fetch : (s : Start) (m : Machine) (k : ℕ) → m ≡ state s m.time
    → ((j : ℕ) → j < k → (x : ℕ) → is_ready (m.time + j) (job_at m.jobs x) ≡ false)
    → (j : ℕ) → j < k → fetch_at s (m.time + j) ≡ None
idle_fetch s m k e none j l =
    let sys = s.system in
    let n = record m { time = m.time + j } in
    let there : state s (m.time + j) ≡ n =
    later_state s m j e ∙ idle_law sys m j (λ i b. none i (omega arith)) in
    ap (fetch sys) there ∙ ap (fetch_by sys n) (none_candidate sys n (none j l))

-- nor in switch cycles
pub switch_fetch : (sys : System) (place n : ℕ) (t : Turn) (k j : ℕ) → k ≤ t.switch_left → j < k
    → turn_fetch sys place (turn_after_steps sys n t j) ≡ None
switch_fetch sys place n t k j l b =
    let bit : (t.switch_left - j == 0) ≡ false = grind (arith, nat_tests) in
    ap (turn_fetch sys place) (switches sys n t j (omega arith)) ∙ rw bit refl

-- nor while an instruction is under way
pub left_fetch : (sys : System) (place : ℕ) (u : Turn) → 0 < u.job.left
    → turn_fetch sys place u ≡ None
left_fetch sys place u l =
    let bit : (u.job.left == 0) ≡ false = grind (arith, nat_tests) in
    elim (cases_Bool (u.switch_left == 0)) [ inl b ↦ rw (b, bit) refl | inr b ↦ rw b refl ]

pub cycle_fetch : (sys : System) (place n : ℕ) (t : Turn) (ins : Ins) (k j : ℕ)
    → t.switch_left ≡ 0 → ins_at sys t.job.pc ≡ Some ins
    → (k ≡ 1) ⊎ (k ≤ (turn_after_fetch sys ins t).job.left) → 1 ≤ j → j < k
    → turn_fetch sys place (turn_after_steps sys n t j) ≡ None
cycle_fetch sys place n t ins k j e i h a b =
    let less : j < (turn_after_fetch sys ins t).job.left = elim h [
      | inl one ↦ absurd (omega (arith, one))
      | inr more ↦ omega (arith, more)
    ] in
    ap (turn_fetch sys place) (counts sys n t ins j e i a less)
    ∙ left_fetch sys place (with_cycles_used (turn_after_fetch sys ins t) j) (omega arith)

-- the fetch of a job at an address
abbrev fetch_by_job : ℕ → ℕ → Option Fetch
fetch_by_job place address = Some (record { job = place; address = address })

-- nor if no instruction can be fetched
pub fault_fetch : (sys : System) (place : ℕ) (u : Turn) → ins_at sys u.job.pc ≡ None
    → turn_fetch sys place u ≡ None
fault_fetch sys place u e =
    elim (cases_Bool (u.switch_left == 0)) [
      | inl b ↦ elim (cases_Bool (u.job.left == 0)) [
        | inl c ↦ rw (b, c, e) refl
        | inr c ↦ rw (b, c) refl
      ]
      | inr b ↦ rw b refl
    ]

-- the fetch of a turn whose instruction is not under way
some_fetch : (sys : System) (place : ℕ) (u : Turn) → u.switch_left ≡ 0 → u.job.left ≡ 0
    → is_some (ins_at sys u.job.pc) ≡ true → turn_fetch sys place u ≡ fetch_by_job place u.job.pc
some_fetch sys place u a b e =
    let x : (u.switch_left == 0) ≡ true = grind (arith, nat_tests) in
    let y : (u.job.left == 0) ≡ true = grind (arith, nat_tests) in
    rw (x, y, e) refl

-- that fetch is what an observer receives
pub observation : (s : Start) (place n : ℕ) (t : Turn) (kept : Bool) (p : Platform)
    (address block set : ℕ) → IsTurnAt s place n t kept → t.switch_left ≡ 0 → t.job.left ≡ 0
    → is_some (ins_at s.system t.job.pc) ≡ true
    → (IsTrue kept → is_unbroken t.job.watch ≡ true) → s.system.platform ≡ p
    → address ≡ t.job.pc → block ≡ block_of p t.job.pc → set ≡ set_of p block
    → IsObservation s (record {
      place = place;
      address = address;
      set = set;
      missed = not (is_hit p t.cache block);
      time = n;
      kept = kept;
    })
observation s place n t kept p address block set h switched left ins flag P A B S =
    let there : block ≡ block_of p address = B ∙ ap (block_of p) (sym A) in
    record {
      fetch = h.fetch ∙ some_fetch s.system place t switched left ins
          ∙ ap (fetch_by_job place) (sym A);
      set = S ∙ ap (set_of p) there ∙ ap (λ q. set_of q (block_of q address)) (sym P);
      missed = ap (λ b. not (is_hit p t.cache b)) there
          ∙ ap (λ q. not (is_hit q t.cache (block_of q address))) (sym P)
          ∙ ap (λ c. not (is_hit s.system.platform c (block_of s.system.platform address)))
          (sym h.cache);
      kept = (λ K. h.watches.1 (K, flag K), λ K. (h.watches.0 K).0);
    }

-- a turn's own step of the run
pub turn_here : (s : Start) (place from until : ℕ) (t : Turn) (kept : Bool)
    → AreTurnsAt s place from until t kept → from < until → is_open t.job.standing ≡ true
    → IsTurnAt s place from t kept
turn_here s place from until t kept all less o =
    let e : from + 0 ≡ from = omega arith in
    subst (λ n. IsTurnAt s place n t kept) e
    (all 0 (omega arith)
    (λ j l. let z : 0 ≡ j = omega arith in
    subst (λ x. is_open (turn_after_steps s.system from t x).job.standing ≡ true) z o))

-- nothing is fetched in the cycles of a move after its first
pub unfetched : (s : Start) (place now time until : ℕ) (t u : Turn) (ins : Ins) (kept : Bool)
    → AreTurnsAt s place now until t kept → time ≤ until → HasMoved s.system now time t u
    → t.switch_left ≡ 0 → ins_at s.system t.job.pc ≡ Some ins
    → (time - now ≡ 1) ⊎ (time - now ≤ (turn_after_fetch s.system ins t).job.left) → (n : ℕ)
    → now + 1 ≤ n → n < time → fetch_at s n ≡ None
unfetched s place now time until t u ins kept all within h switched found up_to n a b =
    let k = n - now in
    let e : now + k ≡ n = omega (arith, a) in
    let T = all k (omega (arith, within, b, e)) (λ j l. h.open_before j (omega (arith, a, b, l))) in
    ap (fetch_at s) (sym e) ∙ T.fetch
    ∙ cycle_fetch s.system place now t ins (time - now) k switched found up_to (omega (arith, a))
    (omega (arith, a, b))

-- nor in switch cycles
pub unfetched_switch : (s : Start) (place from until k : ℕ) (t : Turn) (kept : Bool)
    → AreTurnsAt s place from until t kept → from + k ≤ until → k ≤ t.switch_left
    → is_open t.job.standing ≡ true → (j : ℕ) → j < k → fetch_at s (from + j) ≡ None
unfetched_switch s place from until k t kept all within enough o j l =
    let T = all j (omega (arith, within, l))
    (λ i b. ap (λ (u : Turn). is_open u.job.standing)
    (switches s.system from t i (omega (arith, b, l, enough))) ∙ o) in
    T.fetch ∙ switch_fetch s.system place from t k j enough l
