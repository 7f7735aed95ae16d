-- For step 6: delays that cover the reloads of a window, while its job is open: charged to
-- evictors, and to preemptors.
use Rattle.std.proofs.Common.{◌≡◌, ℕ, zero, suc, ◌+◌, ◌*◌, ◌<◌, ◌≤◌, Bool, true, ◌&&◌, length, refl}
use Rattle.std.proofs.Common.{sym, ◌∙◌, ap, subst, inl, inr, arith, nat_lt, nat_le, ◌==◌}
use Rattle.std.proofs.Math.Nat.{mul-le-mul_left}
use Rattle.std.proofs.lemmas.Bool.{cases_lt, false≢true, and_parts, and_from, or_cases, or_left}
use Rattle.std.proofs.lemmas.Bool.{or_right, lt-ltb, ltb-true, le-leb, cases_eq, eqb-true}
use Rattle.crpd_base.proofs.Options.{some_injective}
use Rattle.crpd_base.specs.declared.data.Part.{Part}
use Rattle.crpd_base.specs.declared.data.Method.{Method}
use Rattle.crpd_base.specs.declared.data.Method.TheVariants.{Ucb, Ecb}
use Rattle.crpd_base.specs.Arrivals.{IsLegal}
use Rattle.crpd_base.specs.Tasks.{period_of}
use Rattle.delay_count.specs.Counts.{jobs_of, affected_preemptions}
use Rattle.delay_count.specs.Gamma.{ucb_count, evicted_from, shared_count, shared_sets}
use Rattle.delay_count.specs.Gamma.{greatest_choice}
use Rattle.delay_count.specs.Demand.{gamma}
use Rattle.crpd_base.specs.Sets.{has as has_set}
use Rattle.preempt_machine.specs.Step.{is_open, Fetch}
use Rattle.run_account.specs.Fetches.{job_after}
use Rattle.run_account.specs.Reloads.{FetchesAt, IsEvictor, RunsInGap}
use Rattle.run_account.proofs.Moves.{stays_over}
use Rattle.run_account.proofs.ReloadLaws.{fetcher_open, fetcher_released, gap_is_of_higher}
use Rattle.run_account.proofs.ReloadLaws.{evictor_is_other, one_reload_per_evictor_and_set}
use Rattle.run_account.proofs.OwnFetches.{own_candidate}
use Rattle.sound_laws.specs.Walks.{RunsLegally}
use Rattle.sound_laws.proofs.Windows.Rooms.{Covers}
use Rattle.sound_laws.proofs.Windows.Busy.{before_task, line_at, task_at, in_window}
use Rattle.sound_laws.proofs.Windows.Releases.{count, lies_in}
use Rattle.sound_laws.proofs.Windows.Responses.{HigherAreOver}
use Rattle.sound_laws.proofs.Delays.ChoiceCount.{ArePreempted, task_choice}
use Rattle.sound_laws.proofs.Counts.Counting.{inject}
use Rattle.run_account.proofs.Preemptors.{preemptor_of, HasPreemptor, preemptor_is, same_reload}
use Rattle.run_account.proofs.Preemptors.{same_job}
use Rattle.sound_laws.proofs.Delays.UnionCount.{AreCharged, HaveSets, task_share}
use Rattle.sound_laws.proofs.Delays.UnionCount.{inside_task}
use Rattle.sound_laws.proofs.Walks.CheckedRuns.{CheckedRun, window, parts, some_sets, cached_run}
use Rattle.sound_laws.proofs.Walks.CheckedRuns.{below_tasks, is_below, sets_same}
use Rattle.sound_laws.proofs.Reloads.Checked.{is_reload, victim, cached, evictor_at, preemptor_at}
use Rattle.sound_laws.proofs.Reloads.Checked.{IsCheckedReload, reload_early, reload_says}
use Rattle.sound_laws.proofs.Reloads.Checked.{fetch_evicts}

pub evicted_by : (parts : ℕ → Part) (h j c : ℕ) → h ≤ j → has_set (parts h).evicting c ≡ true
    → evicted_from parts j c ≡ true
evicted_by parts h zero c l e =
    let z : h ≡ 0 = omega arith in subst (λ k. has_set (parts k).evicting c ≡ true) z e
evicted_by parts h (suc j) c l e =
    elim (cases_eq h (suc j)) [
      | inl q ↦
          or_left (has_set (parts (suc j)).evicting c) (evicted_from parts j c)
          (subst (λ k. has_set (parts k).evicting c ≡ true) q e)
      | inr ne ↦
          or_right (has_set (parts (suc j)).evicting c) (evicted_from parts j c)
          (evicted_by parts h j c (omega arith) e)
    ]

module _ (K : CheckedRun) where
  open K use {start as s, set, horizon, in_range as R, run}

  pub inside_more : (i t until to x : ℕ) → until ≤ to → in_window s i t until x ≡ true
      → in_window s i t to x ≡ true
  inside_more i t until to x l b =
      elim (or_cases _ _ b) [
        | inl q ↦ or_left (x == i) _ q
        | inr q ↦
            let both = and_parts (nat_lt (task_at s x) (task_at s i)) _ q in
            let r = and_parts (nat_le t (line_at s x).release)
            (nat_lt (line_at s x).release until) both.1 in
            let high : (line_at s x).release < until = ltb-true _ _ r.1 in
            or_right (x == i) _
            (and_from (nat_lt (task_at s x) (task_at s i)) _ both.0
            (and_from (nat_le t (line_at s x).release) _ r.0 (lt-ltb _ _ (omega arith))))
      ]

  -- a reload made from a step on and before another
  pub record IsCounted (from until n : ℕ) : Type 0 where
    pub late : from ≤ n
    pub early : n < until
    pub reload : is_reload K n ≡ true

  -- a window of job i, from a step on and up to another, before which the job is open
  pub record IsOpenWindow (i t from until : ℕ) : Type 0 where
    pub job : i < length s.lines
    pub after : t ≤ from
    pub shorter : until ≤ t + window K (task_at s i)
    pub by_horizon : until ≤ horizon
    pub covers : Covers s (in_window s i t until) i from until
    pub higher : HigherAreOver s (window K) horizon i
    pub open_before : (n : ℕ) → n < until → is_open (job_after s n i).standing ≡ true

  -- a delay covers the reloads of the windows of job i, if each reload is charged to a job: that
  -- job is of a higher task than the reload's job, and the reloads of a window that are charged to
  -- jobs of task j take at most the delay of j
  pub record IsCovering (i : ℕ) (charged delay : ℕ → ℕ) : Type 0 where
    pub higher : (n : ℕ) → is_reload K n ≡ true → task_at s (charged n) < task_at s (victim K n)
    pub within : (t from until j : ℕ) (test : ℕ → Bool) → IsOpenWindow i t from until
        → j ≤ task_at s i → ((n : ℕ) → test n ≡ true → IsCounted from until n)
        → set.platform.miss * count (λ n. test n && (task_at s (charged n) == j))
        (t + window K (task_at s i)) ≤ delay j

  -- the reloads of one preemptor of task j, whose job is of task k, are at most this many
  abbrev pub OnePreemptorWithin : (ℕ → ℕ → ℕ) → Type 0
  OnePreemptorWithin most =
      (p k to : ℕ) (test : ℕ → Bool) → ((n : ℕ) → test n ≡ true → (is_reload K n ≡ true)
      × (preemptor_at K n ≡ p) × (task_at s (victim K n) ≡ k))
      → count test to ≤ most (task_at s p) k

  -- job y fetches between two fetches of the job of a reload, and before the reload, so it is
  -- released and ends between them
  pub record PassesBefore (n y : ℕ) : Type 0 where
    pub begin : ℕ
    pub at : ℕ
    pub end : ℕ
    pub first : Fetch
    pub fetch : Fetch
    pub begins : FetchesAt s (victim K n) begin first
    pub by : FetchesAt s y at fetch
    pub early : at < n
    pub passes : RunsInGap s (victim K n) y begin end

  evictor_passes : (n : ℕ) → is_reload K n ≡ true → PassesBefore n (evictor_at K n)
  evictor_passes n b =
      let e = reload_says K n b in
      let others = evictor_is_other s (victim K n) n e.own_time e.fetch e.own (evictor_at K n)
      e.last_time e.last (cached_run K) e.reload e.evicts in
      let at : FetchesAt s (evictor_at K n) e.last_time e.last = record {
        is = e.evicts.last.is;
        by = e.evicts.by;
      } in
      record {
        begin = e.own_time;
        at = e.last_time;
        end = n;
        first = e.own;
        fetch = e.last;
        begins = e.reload.own.own;
        by = at;
        early = e.evicts.last.earlier;
        passes =
            gap_is_of_higher s (victim K n) (evictor_at K n) e.own_time e.last_time n e.own e.last
            e.fetch others.since e.evicts.last.earlier e.reload.own.own at
            e.reload.fetches others.other;
      }

  pub preempted : (n : ℕ) (e : IsCheckedReload K n)
      → HasPreemptor s (victim K n) n (preemptor_at K n) e.fetch
  preempted n e =
      subst (λ c. HasPreemptor s (victim K n) n (preemptor_of s (victim K n) c n) e.fetch)
      e.set_same
      (preemptor_is s (victim K n) n e.own_time e.fetch e.own (cached_run K) e.reload)

  preemptor_passes : (n : ℕ) → is_reload K n ≡ true → PassesBefore n (preemptor_at K n)
  preemptor_passes n b =
      let w = preempted n (reload_says K n b) in
      let q = w.is.passes in
      let g = w.is.lies in
      let early = q.until in
      let in_time = w.is.in_time in
      record {
        begin = w.a;
        at = q.at;
        end = w.c;
        first = g.from;
        fetch = q.fetch;
        begins = g.gap.begins;
        by = q.by;
        early = omega (arith, early, in_time);
        passes =
            gap_is_of_higher s (victim K n) (preemptor_at K n) w.a q.at w.c g.from q.fetch g.to
            q.after q.until g.gap.begins q.by g.gap.ends q.other;
      }

  -- the evictor in the gap of a reload is of the preemptor's task or of one above it
  pub evicted_up : (n : ℕ) → is_reload K n ≡ true
      → evicted_from (parts K) (task_at s (preemptor_at K n)) (cached K n) ≡ true
  evicted_up n b =
      let e = reload_says K n b in
      let w = preempted n e in
      let q = w.is in
      let at : FetchesAt s q.evictor.job w.v q.evictor = record { is = q.last.is; by = refl } in
      let early = reload_early K n b in
      let before_n = q.last.earlier in
      let evicts : has_set (parts K (task_at s q.evictor.job)).evicting (cached K n) ≡ true =
      subst (λ k. has_set (parts K (task_at s q.evictor.job)).evicting k ≡ true)
      (q.last.to_set ∙ e.set_same)
      (fetch_evicts K w.v q.evictor.job q.evictor (omega (arith, early, before_n)) at) in
      let up : task_at s q.evictor.job ≤ task_at s (preemptor_at K n) =
      elim w.up [
        | inl same ↦ let z : task_at s q.evictor.job ≡ task_at s (preemptor_at K n) =
            ap (λ k. task_at s k) same in omega arith
        | inr first ↦ before_task _ _ _ _ first
      ] in
      evicted_by (parts K) (task_at s q.evictor.job) (task_at s (preemptor_at K n)) (cached K n)
      up evicts

  places : (n : ℕ) → is_reload K n ≡ true → cached K n < 512
  places n b = let p = sets_same K in let q = some_sets K in let few = R.few_sets in omega arith

  -- all reloads of one preemptor are of one job, and to different sets
  pub one_job : (n m : ℕ) → is_reload K n ≡ true → is_reload K m ≡ true
      → preemptor_at K n ≡ preemptor_at K m → victim K n ≡ victim K m
  one_job n m b c q =
      let e = reload_says K n b in
      let f = reload_says K m c in
      let x = preempted n e in
      let y = preempted m f in
      same_job s (victim K n) n e.own_time e.fetch e.own (victim K m) m f.own_time f.fetch f.own
      (preemptor_at K n) (preemptor_at K m) x.a x.v x.c y.a y.v y.c (cached_run K) e.reload
      f.reload x.is y.is q

  pub one_set : (n m : ℕ) → n < m → is_reload K n ≡ true → is_reload K m ≡ true
      → preemptor_at K n ≡ preemptor_at K m → cached K n ≡ cached K m → ⊥
  one_set n m l b c q d =
      let e = reload_says K n b in
      let f = reload_says K m c in
      let x = preempted n e in
      let y = preempted m f in
      let same = same_reload s (victim K n) n e.own_time e.fetch e.own (victim K m) m f.own_time
      f.fetch f.own (preemptor_at K n) (preemptor_at K m) x.a x.v x.c y.a y.v y.c (cached_run K)
      e.reload f.reload (e.set_same ∙ d ∙ sym f.set_same) x.is y.is q in
      let z : n ≡ m = same.1 in omega arith

  -- if the reloads of a preemptor are to sets that pass a test and that are evicted, they are at
  -- most as many as the sets that do both
  pub sets_within : (p to : ℕ) (test useful : ℕ → Bool)
      → ((n : ℕ) → test n ≡ true → (is_reload K n ≡ true) × (preemptor_at K n ≡ p)
      × (useful (cached K n) ≡ true))
      → count test to ≤ shared_count useful (evicted_from (parts K) (task_at s p)) 512
  unfolding shared_count
  sets_within p to test useful each =
      inject test (cached K) (λ c. useful c && evicted_from (parts K) (task_at s p) c) to 512
      (λ n l b. places n (each n b).0)
      (λ n l b.
      let e = each n b in
      and_from (useful (cached K n)) _ e.2
      (subst (λ q. evicted_from (parts K) (task_at s q) (cached K n) ≡ true) e.1
      (evicted_up n e.0)))
      (λ n m l h a b q.
      one_set n m l (each n a).0 (each m b).0 ((each n a).1 ∙ sym (each m b).1) q)

  -- the reloads of a preemptor are at most as many as the task's useful sets that are evicted
  pub shared_within : OnePreemptorWithin (shared_sets (parts K))
  shared_within p k to test each =
      sets_within p to test (has_set (parts K k).useful)
      (λ n b. let e = each n b in (
        e.0,
        e.1,
        subst (λ q. has_set (parts K q).useful (cached K n) ≡ true) e.2
            (reload_says K n e.0).useful,
      ))

  pub legal_run : IsLegal set s.lines → RunsLegally set s
  legal_run legal = record { cache = run.cache; tasks = run.tasks; legal = legal }

  -- the reloads of a window, while its job is open
  module _ (i t from until : ℕ) (h : i < length s.lines) (after : t ≤ from)
      (shorter : until ≤ t + window K (task_at s i)) (by_horizon : until ≤ horizon)
      (covers : Covers s (in_window s i t until) i from until)
      (higher : HigherAreOver s (window K) horizon i)
      (o : (n : ℕ) → n < until → is_open (job_after s n i).standing ≡ true) (test : ℕ → Bool)
      (facts : (n : ℕ) → test n ≡ true → IsCounted from until n) where
    abbrev to : ℕ
    to = t + window K (task_at s i)

    says_at : (n : ℕ) → test n ≡ true → IsCheckedReload K n
    says_at n b = reload_says K n (facts n b).reload

    victim_inside_until : (n : ℕ) → test n ≡ true → in_window s i t until (victim K n) ≡ true
    victim_inside_until n b =
        let f = facts n b in
        let c = covers.within n f.late f.early (o n f.early) in
        let same : c.0 ≡ victim K n = some_injective (sym c.1 ∙ (says_at n b).is_candidate) in
        subst (λ k. in_window s i t until k ≡ true) same c.2

    pub victim_inside : (n : ℕ) → test n ≡ true → in_window s i t to (victim K n) ≡ true
    victim_inside n b =
        inside_more i t until (t + window K (task_at s i)) (victim K n) shorter
        (victim_inside_until n b)

    -- what holds of a job that runs before a reload of the window, as its evictor and its preemptor
    -- do
    begins_late : (n y : ℕ) → test n ≡ true → (p : PassesBefore n y) → from ≤ p.begin
    begins_late n y b p =
        elim (cases_lt p.begin from) [
          | inl early ↦
              let out = covers.none_before p.begin (victim K n) early
              (own_candidate s (victim K n) p.begin p.first p.begins) in
              absurd (false≢true (sym out ∙ victim_inside_until n b))
          | inr g ↦ g
        ]

    times : (n y : ℕ) → test n ≡ true → PassesBefore n y
        → ((line_at s (victim K n)).release < (line_at s y).release) × (t ≤ (line_at s y).release)
        × ((line_at s y).release < n)
    times n y b p =
        let released = p.passes.released in
        let r = fetcher_released s y p.at p.fetch p.by in
        let rx = fetcher_released s (victim K n) p.begin p.first p.begins in
        let late = begins_late n y b p in
        let early = p.early in
        (omega (arith, released, rx), omega (arith, released, late), omega (arith, r, early))

    is_job : (n y : ℕ) → PassesBefore n y → y < length s.lines
    is_job n y p = is_below K p.at y (own_candidate s y p.at p.fetch p.by)

    inside : (n y : ℕ) → n < to → test n ≡ true → PassesBefore n y → in_window s i t to y ≡ true
    inside n y l b p =
        let at = times n y b p in
        let up = p.passes.higher in
        let top = inside_task s i t to (victim K n) (victim_inside n b) in
        or_right (y == i) _
        (and_from _ _ (lt-ltb _ _ (omega arith))
        (and_from _ _ (le-leb _ _ at.1) (lt-ltb _ _ (omega (arith, at.2)))))

    life : (n y : ℕ) → test n ≡ true → PassesBefore n y → task_at s (victim K n) < task_at s i
        → lies_in (line_at s (victim K n)).release
        ((line_at s (victim K n)).release + window K (task_at s (victim K n)))
        (line_at s y).release ≡ true
    life n y b p up =
        let e = says_at n b in
        let at = times n y b p in
        let open_n = fetcher_open s (victim K n) n e.fetch e.reload.fetches in
        let early : n < (line_at s (victim K n)).release + window K (task_at s (victim K n)) =
        elim (cases_lt n ((line_at s (victim K n)).release + window K (task_at s (victim K n)))) [
          | inl k ↦ k
          | inr g ↦
              absurd (false≢true
              (sym (stays_over s _ n (victim K n) g
              (higher (victim K n) e.below up (let z = (facts n b).early in
              omega (arith, g, z, by_horizon)))) ∙ open_n))
        ] in
        let low : (line_at s (victim K n)).release ≤ (line_at s y).release =
        omega (arith, at.0) in
        let high : (line_at s y).release
        < (line_at s (victim K n)).release + window K (task_at s (victim K n)) =
        omega (arith, at.2, early) in
        and_from _ _ (le-leb _ _ low) (lt-ltb _ _ high)

    evicted : (n : ℕ) → (b : test n ≡ true)
        → has_set (parts K (task_at s (evictor_at K n))).evicting (cached K n) ≡ true
    evicted n b =
        let e = says_at n b in
        let early = (facts n b).early in
        let before = e.evicts.last.earlier in
        subst (λ k. has_set (parts K (task_at s (evictor_at K n))).evicting k ≡ true)
        (e.evicts.last.to_set ∙ e.set_same)
        (fetch_evicts K e.last_time (evictor_at K n) e.last
        (omega (arith, early, before, by_horizon))
        (record { is = e.evicts.last.is; by = e.evicts.by }))

    once : (n m : ℕ) → n < m → m < to → (b : test n ≡ true) → (c : test m ≡ true)
        → evictor_at K n ≡ evictor_at K m → cached K n ≡ cached K m → ⊥
    once n m l k b c ev ca =
        let e = says_at n b in
        let f = says_at m c in
        let other : IsEvictor s (evictor_at K n) m f.last_time f.fetch f.last = record {
          last = f.evicts.last;
          by = f.evicts.by ∙ sym ev;
        } in
        let same = one_reload_per_evictor_and_set s (victim K n) n e.own_time e.fetch
        e.own (victim K m) m f.own_time f.fetch f.own (evictor_at K n) e.last_time
        f.last_time e.last f.last (cached_run K)
        e.reload f.reload (e.set_same ∙ ca ∙ sym f.set_same) e.evicts other in
        omega arith

    -- with jobs that run before them
    are_charged : (charged : ℕ → ℕ)
        → ((n : ℕ) → is_reload K n ≡ true → PassesBefore n (charged n))
        → AreCharged s (window K) i t to test (victim K) charged
    are_charged charged passes =
        record {
          victims = λ n l b. ((says_at n b).below, victim_inside n b);
          jobs = λ n l b.
              let p = passes n (facts n b).reload in
              (is_job n (charged n) p, inside n (charged n) l b p);
          higher = λ n l b. (passes n (facts n b).reload).passes.higher;
          in_life = λ n l b up. life n (charged n) b (passes n (facts n b).reload) up;
        }

    have_sets : HaveSets s (parts K) to test (victim K) (evictor_at K) (cached K)
    have_sets =
        record {
          places = λ n l b. places n (facts n b).reload;
          is_evicted = λ n l b. evicted n b;
          is_useful = λ n l b. (says_at n b).useful;
          once = once;
        }

    are_preempted : (most : ℕ → ℕ → ℕ) → OnePreemptorWithin most
        → ArePreempted s most to test (victim K) (preemptor_at K)
    are_preempted most within =
        record {
          one_job = λ n m l k b c q. one_job n m (facts n b).reload (facts m c).reload q;
          few = λ p k. within p k to
              (λ n. (test n && (preemptor_at K n == p)) && (task_at s (victim K n) == k))
              (λ n b.
              let both = and_parts (test n && (preemptor_at K n == p))
              (task_at s (victim K n) == k) b in
              let one = and_parts (test n) (preemptor_at K n == p) both.0 in
              ((facts n one.0).reload, eqb-true _ _ one.1, eqb-true _ _ both.1));
        }

    periods_pos : (k : ℕ) → k ≤ task_at s i → 0 < period_of set k
    periods_pos k l = let tb = below_tasks K i h in R.periods k (omega arith)

    -- the reloads that are charged to a task are at most its count: by their evictors, and by their
    -- preemptors
    pub by_evictors : IsLegal set s.lines → (j : ℕ) → j ≤ task_at s i
        → count (λ n. test n && (task_at s (evictor_at K n) == j)) to
        ≤ ucb_count set (parts K) (window K) (window K (task_at s i)) (task_at s i) j
    by_evictors legal j l =
        task_share s set (legal_run legal) (parts K) (window K) i t test (victim K) (evictor_at K)
        (cached K) (are_charged (evictor_at K) evictor_passes) have_sets periods_pos j l

    pub by_preemptors : IsLegal set s.lines → (most : ℕ → ℕ → ℕ) → OnePreemptorWithin most
        → (j : ℕ) → j ≤ task_at s i
        → count (λ n. test n && (task_at s (preemptor_at K n) == j)) to
        ≤ greatest_choice (most j)
        (affected_preemptions set (window K) (window K (task_at s i)) (task_at s i) j)
        (suc (task_at s i)) (jobs_of set j (window K (task_at s i)))
    by_preemptors legal most within j l =
        task_choice s set (legal_run legal) most (window K) i t test (victim K) (preemptor_at K)
        (are_charged (preemptor_at K) preemptor_passes) (are_preempted most within) periods_pos j l

  -- the UCB-union delay covers the reloads, charged to their evictors
  ucb_covers : IsLegal set s.lines → (i : ℕ) → IsCovering i (evictor_at K)
      (gamma set (parts K) (window K) (window K (task_at s i)) Ucb (task_at s i))
  ucb_covers legal i =
      record {
        higher = λ n b. (evictor_passes n b).passes.higher;
        within = λ t from until j test W l facts.
            mul-le-mul_left set.platform.miss
            (by_evictors i t from until W.job W.after W.shorter W.by_horizon W.covers W.higher
            W.open_before test facts legal j l);
      }

  -- the largest choice, given a bound on the reloads of one preemptor, covers them, charged to
  -- their preemptors
  pub choice_covers : IsLegal set s.lines → (most : ℕ → ℕ → ℕ) → OnePreemptorWithin most → (i : ℕ)
      → IsCovering i (preemptor_at K)
      (λ j. set.platform.miss * greatest_choice (most j)
      (affected_preemptions set (window K) (window K (task_at s i)) (task_at s i) j)
      (suc (task_at s i)) (jobs_of set j (window K (task_at s i))))
  choice_covers legal most one i =
      record {
        higher = λ n b. (preemptor_passes n b).passes.higher;
        within = λ t from until j test W l facts.
            mul-le-mul_left set.platform.miss
            (by_preemptors i t from until W.job W.after W.shorter W.by_horizon W.covers W.higher
            W.open_before test facts legal most one j l);
      }

  -- the job to which a method charges a reload
  abbrev pub charged_at : Method → ℕ → ℕ
  charged_at Ucb n = evictor_at K n
  charged_at Ecb n = preemptor_at K n

  -- the delay by either method covers them
  pub method_covers : IsLegal set s.lines → (m : Method) (i : ℕ) → IsCovering i (charged_at m)
      (gamma set (parts K) (window K) (window K (task_at s i)) m (task_at s i))
  method_covers legal Ucb i = ucb_covers legal i
  method_covers legal Ecb i = choice_covers legal (shared_sets (parts K)) shared_within i
