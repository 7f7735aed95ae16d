-- Step 6, reloads_within_delays: the reloads of a window, up to a step before which its job is
-- open, are within the delays that cover them.
use Rattle.std.proofs.Common.{◌≡◌, ℕ, ◌+◌, ◌*◌, ◌<◌, ◌≤◌, Bool, true, false, ◌&&◌, length, sym, ◌∙◌}
use Rattle.std.proofs.Common.{ap, subst, inl, inr, arith, nat_lt, ◌==◌, if◌then◌else◌}
use Rattle.std.proofs.Math.Nat.{mul-le-mul_left}
use Rattle.std.proofs.lemmas.Bool.{cases_Bool, cases_lt, false≢true, and_parts, and_from, lt-ltb}
use Rattle.std.proofs.lemmas.Bool.{ltb-true, eq-eqb}
use Rattle.crpd_base.proofs.Sums.{sum_mono}
use Rattle.crpd_base.specs.declared.data.TaskSet.{TaskSet}
use Rattle.crpd_base.specs.declared.data.Certificate.{Certificate}
use Rattle.crpd_base.specs.declared.data.Method.{Method}
use Rattle.crpd_base.specs.declared.data.Method.TheVariants.{Ucb, Ecb}
use Rattle.crpd_base.specs.Arrivals.{IsLegal}
use Rattle.delay_count.specs.Demand.{gamma}
use Rattle.loop_regions.specs.TaskGraph.{TaskGraph}
use Rattle.cert_check.specs.declared.outcome.Clause.TheVariants.{Window, Response, Deadline}
use Rattle.cert_check.specs.JudgeInput.{window_at, certified_part}
use Rattle.cert_check.specs.Verdict.{IsYes}
use Rattle.evict_sets.specs.ListedPart.{certified_task}
use Rattle.preempt_machine.specs.Step.{is_open, Fetch, Start, state}
use Rattle.preempt_machine.specs.Safe.{IsKept}
use Rattle.run_account.specs.Fetches.{job_after, fetched_set, IsLastFetchTo}
use Rattle.run_account.specs.Nodes.{job_task}
use Rattle.run_account.specs.Reloads.{FetchesAt, IsPreemptor, IsEvictor}
use Rattle.run_account.specs.Ledger.{IsWindowStart}
use Rattle.run_account.proofs.OneLedger.{last_job, one_preemptor}
use Rattle.sound_laws.specs.Walks.{HasTaskRanges, IsCodeOf, RunsLegally, MeetsGraphs}
use Rattle.sound_laws.specs.Windows.{IsCharged, ChargedTo, CoversReloads, ReloadsWithinDelays}
use Rattle.sound_laws.proofs.Windows.Busy.{line_at, task_at, IsLastQuiet, is_busy_by}
use Rattle.sound_laws.proofs.Windows.Busy.{all_quiet, some_busy}
use Rattle.sound_laws.proofs.Windows.Releases.{count, count_none}
use Rattle.sound_laws.proofs.Counts.Counting.{count_le}
use Rattle.sound_laws.proofs.Windows.Responses.{HasShortFront, HasWindows, higher_over}
use Rattle.sound_laws.proofs.Windows.Responses.{over_after_quiet, quiet_covers}
use Rattle.walk_parts.specs.Parts.{WalkPart}
use Rattle.preempt_machine.specs.Machine.{System}
use Rattle.sound_laws.specs.Windows.{HaveRoom}
use Rattle.sound_laws.specs.PartWindows.{IsReloadByPart, ChargedByPart, CoversPartReloads}
use Rattle.sound_laws.proofs.Walks.CheckedRuns.{KeptRun, CheckedRun, AreSound, checked_run, kept_run, run_of}
use Rattle.sound_laws.proofs.Walks.CheckedRuns.{window, bound_of}
use Rattle.sound_laws.proofs.Reloads.Checked.{is_reload, extra, victim, evictor_at, preemptor_at}
use Rattle.sound_laws.proofs.Reloads.Checked.{reload_says, reload_test, fetch_same, victim_is}
use Rattle.sound_laws.proofs.Reloads.CertifiedRuns.{CertifiedRun, certified_run, by_parts}
use Rattle.sound_laws.proofs.Reloads.CertifiedRuns.{ledger_test}
use Rattle.sound_laws.proofs.Execution.Certified.{yes_meets, task_walks, task_sound}
use Rattle.sound_laws.proofs.Execution.Spent.{rest, rest_spends}
use Rattle.sound_laws.proofs.Delays.WindowReloads.{legal_run, IsCounted, IsOpenWindow, IsCovering}
use Rattle.sound_laws.proofs.Delays.WindowReloads.{preempted, charged_at, method_covers}
use Rattle.sound_laws.proofs.Windows.Delayed.{HaveDelays}
use Rattle.sound_laws.proofs.Windows.InTime.{run_by, block, delays, windows}

module _ (K : CheckedRun) where
  open K use {start as s, set, graphs, horizon}

  abbrev pub base : KeptRun
  base = kept_run s set graphs (window K) horizon K.in_range K.code K.run K.kept

  -- a reload has the run's evictor and preemptor
  evictor_is : (n x y : ℕ) → is_reload K n ≡ true → (f : Fetch) → FetchesAt s x n f → (v : ℕ)
      (g : Fetch) → IsEvictor s y n v f g → evictor_at K n ≡ y
  evictor_is n x y b f fetches v g E =
      let e = reload_says K n b in
      let same = fetch_same K n x (victim K n) f e.fetch fetches e.reload.fetches in
      let last = last_job s (fetched_set s e.fetch) n e.last_time v e.last g e.evicts.last
      (subst (λ f. IsLastFetchTo s (fetched_set s f) n v g) same E.last) in
      sym e.evicts.by ∙ ap (λ (f : Fetch). f.job) last ∙ E.by

  preempts_is : (n x y : ℕ) → is_reload K n ≡ true → (f : Fetch) → FetchesAt s x n f
      → (from time until : ℕ) → IsPreemptor s x y n from time until f → preemptor_at K n ≡ y
  preempts_is n x y b f fetches from time until P =
      let e = reload_says K n b in
      let w = preempted K n e in
      let same = fetch_same K n x (victim K n) f e.fetch fetches e.reload.fetches in
      let is_x : IsPreemptor s (victim K n) y n from time until e.fetch =
      subst (λ f. IsPreemptor s (victim K n) y n from time until f) same
      (subst (λ z. IsPreemptor s z y n from time until f) (victim_is K n x f fetches) P) in
      one_preemptor s (victim K n) (preemptor_at K n) y n w.a w.v w.c from time until e.fetch w.is
      is_x

  -- the windows may have room with other parts
  module _ (legal : IsLegal set s.lines) (walks : ℕ → ℕ → WalkPart)
      (sound : (i : ℕ) → AreSound set graphs (walks i)) (delay : ℕ → ℕ → ℕ)
      (D : HaveDelays base walks sound delay) where
    abbrev by : ℕ → CheckedRun
    by = run_by base walks sound

    abbrev room : HasWindows s set (λ i. rest (by i)) (λ i. extra (by i)) (λ i. bound_of (by i))
        (window K) (block base walks sound legal) (delays base walks sound legal delay D)
        horizon
    room = windows base walks sound legal delay D

    -- the window of a job
    module _ (i t : ℕ) (h : i < length s.lines) (starts : IsWindowStart s i t) where
      quiet_by : (y : ℕ) → y < length s.lines → is_busy_by s i t y ≡ false
      quiet_by y l =
          elim (cases_Bool (is_busy_by s i t y)) [
            | inr b ↦ b
            | inl b ↦
                let one = and_parts (nat_lt (task_at s y) (task_at s i)) _ b in
                let two = and_parts (nat_lt (line_at s y).release t)
                (is_open (job_after s t y).standing) one.1 in
                absurd (false≢true (sym (starts.quiet y l (ltb-true _ _ one.0) (ltb-true _ _ two.0))
                ∙ two.1))
          ]

      pub last : IsLastQuiet s i (line_at s i).release t
      last =
          record {
            by = starts.by;
            quiet = all_quiet s i t (length s.lines) quiet_by;
            busy = λ u a b.
                let y = starts.busy u a b in
                some_busy s i u (length s.lines) y.0 y.1
                (and_from (nat_lt (task_at s y.0) (task_at s i)) _ (lt-ltb _ _ y.2)
                (and_from (nat_lt (line_at s y.0).release u) _ (lt-ltb _ _ y.3) y.4));
          }

      -- a job has ended by the end of its window
      pub over_by_end : t + window K (task_at s i) ≤ horizon
          → is_open (job_after s (t + window K (task_at s i)) i).standing ≡ false
      over_by_end in_horizon =
          over_after_quiet s set (legal_run K legal) (λ i. rest (by i)) (λ i. extra (by i))
          (λ i. bound_of (by i)) (window K) (block base walks sound legal)
          (delays base walks sound legal delay D) horizon (λ i. rest_spends (by i)) room i t h last
          in_horizon

    -- while it is open, up to the horizon
    module _ (i t : ℕ) (h : i < length s.lines) (starts : IsWindowStart s i t)
        (open_before : (n : ℕ) → n < horizon → is_open (job_after s n i).standing ≡ true)
        (begun : t ≤ horizon) where
      pub front : HasShortFront s i t (block base walks sound legal (task_at s i))
      front = room.fronts i t h begun (last i t h starts)

      in_time : horizon ≤ t + window K (task_at s i)
      in_time =
          elim (cases_lt (t + window K (task_at s i)) horizon) [
            | inr g ↦ g
            | inl l ↦
                let over = over_by_end i t h starts (omega arith) in
                absurd (false≢true (sym over ∙ open_before (t + window K (task_at s i)) l))
          ]

      pub is_window : IsOpenWindow K i t front.from horizon
      is_window =
          record {
            job = h;
            after = front.after;
            shorter = in_time;
            by_horizon = omega arith;
            covers =
                quiet_covers s set (legal_run K legal) (λ i. rest (by i)) (λ i. extra (by i))
                (λ i. bound_of (by i)) (window K) (block base walks sound legal)
                (delays base walks sound legal delay D) horizon (λ i. rest_spends (by i)) room i t
                horizon h (last i t h starts) front in_time (omega arith);
            higher =
                higher_over s set (legal_run K legal) (λ i. rest (by i)) (λ i. extra (by i))
                (λ i. bound_of (by i)) (window K) (block base walks sound legal)
                (delays base walks sound legal delay D) horizon (λ i. rest_spends (by i)) room i;
            open_before = open_before;
          }

      late_of : (n x : ℕ) (f : Fetch) → t ≤ n → FetchesAt s x n f → front.from ≤ n
      late_of n x f l e = elim (cases_lt n front.from) [
        | inl early ↦ absurd (front.no_fetch n f l early e.is)
        | inr g ↦ g
      ]

      -- the reloads that are charged to jobs of a task are within a delay that covers them
      pub within : (charged limit : ℕ → ℕ) → IsCovering K i charged limit → (j : ℕ)
          → j ≤ task_at s i → (test : ℕ → Bool)
          → ((n : ℕ) → test n ≡ true → (n < horizon) × (t ≤ n) × (is_reload K n ≡ true)
          × (task_at s (charged n) ≡ j))
          → set.platform.miss * count test horizon ≤ limit j
      within charged limit covering j top test each =
          let facts : (n : ℕ) → test n ≡ true → IsCounted K front.from horizon n = λ n b.
          let w = each n b in
          let e = reload_says K n w.2 in
          record {
            late = late_of n (victim K n) e.fetch w.1 e.reload.fetches;
            early = w.0;
            reload = w.2;
          } in
          let le = count_le test (λ n. test n && (task_at s (charged n) == j)) horizon
          (λ n l b. and_from (test n) _ b (eq-eqb _ _ (each n b).3)) in
          let more = sum_mono
          (λ n. if test n && (task_at s (charged n) == j) then 1 else 0) horizon
          (t + window K (task_at s i)) in_time in
          let counts : count test horizon
          ≤ count (λ n. test n && (task_at s (charged n) == j)) (t + window K (task_at s i)) =
          omega (arith, le, more) in
          let few = mul-le-mul_left set.platform.miss counts in
          let all = covering.within t front.from horizon j test is_window top facts in
          omega (arith, few, all)

-- the reloads of a ledger
module _ (L : CertifiedRun) where
  open L use {start as s, set, graphs, certificate as c, horizon}

  abbrev K : CheckedRun
  K = by_parts L

  charged_is : (m : Method) (n x y : ℕ) → is_reload K n ≡ true → IsCharged m s graphs c n x y
      → charged_at K m n ≡ y
  charged_is Ucb n x y b E =
      evictor_is K n x y b E.fetch E.reload.fetches E.time E.last E.is
  charged_is Ecb n x y b E =
      preempts_is K n x y b E.fetch E.reload.fetches E.from E.time E.until E.is

  charged_fetch : (m : Method) (n x y : ℕ) → n < horizon → IsCharged m s graphs c n x y
      → is_reload K n ≡ true
  charged_fetch Ucb n x y l E = ledger_test L n x E.fetch l E.reload
  charged_fetch Ecb n x y l E = ledger_test L n x E.fetch l E.reload

  ledger_facts : (m : Method) (i t j n : ℕ) → n < horizon → ChargedTo m s graphs c i t j n
      → (n < horizon) × (t ≤ n) × (is_reload K n ≡ true) × (task_at s (charged_at K m n) ≡ j)
  ledger_facts m i t j n l w =
      let b = charged_fetch m n w.1 w.2 l w.5 in
      (l, w.0, b, ap (λ y. task_at s y) (charged_is m n w.1 w.2 b w.5) ∙ w.4)

-- the reloads by parts
module _ (K : CheckedRun) where
  open K use {start as s, graphs, walks, horizon}

  part_test : (n x : ℕ) (f : Fetch) → n < horizon → IsReloadByPart s graphs walks n x f
      → is_reload K n ≡ true
  part_test n x f l e = reload_test K n x f l e.fetches e.counted e.misses

  part_facts : (m : Method) (i t j n : ℕ) → n < horizon → ChargedByPart m s graphs walks i t j n
      → (n < horizon) × (t ≤ n) × (is_reload K n ≡ true) × (task_at s (charged_at K m n) ≡ j)
  part_facts Ucb i t j n l w =
      let E = w.5 in
      let b = part_test n w.1 E.fetch l E.reload in (
        l,
        w.0,
        b,
        ap (λ y. task_at s y)
            (evictor_is K n w.1 w.2 b E.fetch E.reload.fetches E.time E.last E.is) ∙ w.4,
      )
  part_facts Ecb i t j n l w =
      let E = w.5 in
      let b = part_test n w.1 E.fetch l E.reload in (
        l,
        w.0,
        b,
        ap (λ y. task_at s y)
            (preempts_is K n w.1 w.2 b E.fetch E.reload.fetches E.from E.time E.until E.is) ∙ w.4,
      )

-- if the window begins later there is no step to count
none_counted : (t until : ℕ) (test : ℕ → Bool) → until < t
    → ((n : ℕ) → test n ≡ true → (n < until) × (t ≤ n)) → count test until ≡ 0
none_counted t until test l each =
    count_none test until (λ n k. elim (cases_Bool (test n)) [
      | inr b ↦ b
      | inl b ↦ let w = each n b in absurd (omega (arith, w.0, w.1))
    ])

-- in every legal and kept run of a set's code, the windows have such delays, by sound parts
pub record HoldInRuns (set : TaskSet) (graphs : ℕ → TaskGraph) (window : ℕ → ℕ)
    (walks : ℕ → ℕ → WalkPart) (sound : (i : ℕ) → AreSound set graphs (walks i))
    (delay : ℕ → ℕ → ℕ) : Type 0 where
  pub room : HaveRoom set graphs (λ i k. (walks i k).part) window delay
  pub covering : (s : Start) (n : ℕ) (R : HasTaskRanges set) (C : IsCodeOf s.system set graphs)
      (run : RunsLegally set s) (k : IsKept (state s n)) (i : ℕ) → i < length s.lines
      → (charged : ℕ → ℕ)
      × IsCovering
      (checked_run (kept_run s set graphs window n R C (run_of run) k) (walks (task_at s i))
      (sound (task_at s i))) i charged (delay (task_at s i))

pub hold_here : (set : TaskSet) (graphs : ℕ → TaskGraph) (window : ℕ → ℕ)
    (walks : ℕ → ℕ → WalkPart) (sound : (i : ℕ) → AreSound set graphs (walks i))
    (delay : ℕ → ℕ → ℕ) → HoldInRuns set graphs window walks sound delay
    → (s : Start) (n : ℕ) (R : HasTaskRanges set) (C : IsCodeOf s.system set graphs)
    (run : RunsLegally set s) (k : IsKept (state s n))
    → HaveDelays (kept_run s set graphs window n R C (run_of run) k) walks sound delay
hold_here set graphs window walks sound delay H s n R C run k =
    record { room = H.room; covering = λ i l. H.covering s n R C run k i l }

-- a delay covers the reloads by a certificate's parts, as a method charges them
abbrev pub CoversInRuns : TaskSet → (ℕ → TaskGraph) → Certificate → Method → (ℕ → ℕ → ℕ) → Type 0
CoversInRuns set graphs c method limit =
    (s : Start) (n : ℕ) (R : HasTaskRanges set) (C : IsCodeOf s.system set graphs)
    (M : MeetsGraphs set graphs c) (run : RunsLegally set s) (k : IsKept (state s n)) (i : ℕ)
    → IsCovering (by_parts (certified_run s set graphs c n R C M (run_of run) k)) i
    (charged_at (by_parts (certified_run s set graphs c n R C M (run_of run) k)) method)
    (limit (task_at s i))

-- it then covers those of the ledger, also if the windows use other delays
pub covers_reloads : (set : TaskSet) (graphs : ℕ → TaskGraph) (c : Certificate) (method : Method)
    (walks : ℕ → ℕ → WalkPart) (sound : (i : ℕ) → AreSound set graphs (walks i))
    (delay limit : ℕ → ℕ → ℕ) → MeetsGraphs set graphs c
    → HoldInRuns set graphs (window_at c) walks sound delay
    → CoversInRuns set graphs c method limit → CoversReloads set graphs c method limit
covers_reloads set graphs c method walks sound delay limit M H L_covers s i t until j test W top each =
    elim (cases_lt until t) [
      | inl l ↦
          let none = none_counted t until test l (λ n b. ((each n b).0, (each n b).1.0)) in
          rw none (omega arith)
      | inr g ↦
          let L = certified_run s set graphs c until W.in_range W.code M (run_of W.run) W.kept in
          within (by_parts L) W.run.legal walks sound delay
          (hold_here set graphs (window_at c) walks sound delay H s until W.in_range W.code W.run
          W.kept) i t W.job W.starts W.open_before g (charged_at (by_parts L) method)
          (limit (job_task s i)) (L_covers s until W.in_range W.code M W.run W.kept i) j top test
          (λ n b. let w = each n b in ledger_facts L method i t j n w.0 w.1)
    ]

-- a delay covers the reloads by sound parts, as a method charges them
abbrev pub CoversByParts : (set : TaskSet) (graphs : ℕ → TaskGraph) (window : ℕ → ℕ)
    (parts : ℕ → WalkPart) → AreSound set graphs parts → Method → (ℕ → ℕ → ℕ) → Type 0
CoversByParts set graphs window parts fair method limit =
    (s : Start) (n : ℕ) (R : HasTaskRanges set) (C : IsCodeOf s.system set graphs)
    (run : RunsLegally set s) (k : IsKept (state s n)) (i : ℕ)
    → IsCovering (checked_run (kept_run s set graphs window n R C (run_of run) k) parts fair) i
    (charged_at (checked_run (kept_run s set graphs window n R C (run_of run) k) parts fair)
    method) (limit (task_at s i))

-- it then covers those of each window, whose room may be by other parts and delays
pub covers_by_parts : (set : TaskSet) (graphs : ℕ → TaskGraph) (window : ℕ → ℕ)
    (parts : ℕ → WalkPart) (fair : AreSound set graphs parts) (method : Method)
    (walks : ℕ → ℕ → WalkPart) (sound : (i : ℕ) → AreSound set graphs (walks i))
    (delay limit : ℕ → ℕ → ℕ) → HoldInRuns set graphs window walks sound delay
    → CoversByParts set graphs window parts fair method limit
    → CoversPartReloads set graphs parts method limit
covers_by_parts set graphs window parts fair method walks sound delay limit H covers s i t until j
    test W top each =
    elim (cases_lt until t) [
      | inl l ↦
          let none = none_counted t until test l (λ n b. ((each n b).0, (each n b).1.0)) in
          rw none (omega arith)
      | inr g ↦
          let K = checked_run (kept_run s set graphs window until W.in_range W.code (run_of W.run)
          W.kept) parts fair in
          within K W.run.legal walks sound delay
          (hold_here set graphs window walks sound delay H s until W.in_range W.code W.run W.kept)
          i t W.job W.starts W.open_before g (charged_at K method) (limit (job_task s i))
          (covers s until W.in_range W.code W.run W.kept i) j top test
          (λ n b. let w = each n b in part_facts K method i t j n w.0 w.1)
    ]

-- after a yes the windows have the delays of their methods
module _ (sys : System) (set : TaskSet) (graphs : ℕ → TaskGraph) (c : Certificate)
    (C : IsCodeOf sys set graphs) (says : IsYes set graphs c) where
  abbrev met : MeetsGraphs set graphs c
  met = yes_meets set graphs c says

  abbrev pub yes_walks : ℕ → ℕ → WalkPart
  yes_walks i = task_walks sys set graphs C c (yes_meets set graphs c says)

  pub yes_sound : (i : ℕ) → AreSound set graphs (yes_walks i)
  yes_sound i = task_sound sys set graphs C c (yes_meets set graphs c says)

  abbrev pub yes_delay : ℕ → ℕ → ℕ
  yes_delay i =
      gamma set (certified_part c) (window_at c) (window_at c i) (certified_task c i).method i

  pub yes_holds : HoldInRuns set graphs (window_at c) yes_walks yes_sound yes_delay
  yes_holds =
      record {
        room = record {
          room = λ k l. (says k Window l).1;
          in_deadline = λ k l.
              let r = says k Response l in let d = says k Deadline l in omega (arith, r, d);
        };
        covering = λ s n R D run k i l.
            let K = checked_run (kept_run s set graphs (window_at c) n R D (run_of run) k)
            (yes_walks (task_at s i)) (yes_sound (task_at s i)) in (
              charged_at K (certified_task c (task_at s i)).method,
              method_covers K run.legal (certified_task c (task_at s i)).method i,
            );
      }

pub reloads_within_delays : ReloadsWithinDelays
reloads_within_delays set graphs c method says s i t until j test W top each =
    covers_reloads set graphs c method
    (yes_walks s.system set graphs c W.code says) (yes_sound s.system set graphs c W.code says)
    (yes_delay s.system set graphs c W.code says)
    (λ i. gamma set (certified_part c) (window_at c) (window_at c i) method i)
    (yes_meets set graphs c says) (yes_holds s.system set graphs c W.code says)
    (λ s n R C M run kept i.
    method_covers (by_parts (certified_run s set graphs c n R C M (run_of run) kept)) run.legal
    method i)
    s i t until j test W top each
