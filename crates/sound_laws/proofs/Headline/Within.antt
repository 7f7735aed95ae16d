-- An undisturbed job of checked code completes within its bound, and the reloads of its account are
-- within the delays.
use Rattle.std.proofs.Common.{◌≡◌, ℕ, zero, suc, ◌+◌, ◌*◌, ◌<◌, ◌≤◌, Bool, true, false, ◌&&◌, List}
use Rattle.std.proofs.Common.{[], ◌∷◌, length, get_or, map, nat_le, if◌then◌else◌, IsTrue}
use Rattle.std.proofs.Common.{refl, sym, ◌∙◌, ap, subst, arith, slice_index, count_by, ◌==◌, nat_lt}
use Rattle.std.proofs.Common.{mul-le-mul_left, mul_comm}
use Rattle.std.proofs.lemmas.Bool.{and_parts, leb-true}
use Rattle.crpd_base.specs.Sum.{sum_below}
use Rattle.crpd_base.proofs.Sums.{sum_le, sum_same, sum_times}
use Rattle.crpd_base.specs.declared.data.Certificate.{Certificate}
use Rattle.crpd_base.specs.declared.data.Script.{Script}
use Rattle.crpd_base.specs.declared.data.ScriptJob.{ScriptJob}
use Rattle.crpd_base.specs.declared.data.TaskPart.{TaskPart}
use Rattle.crpd_base.specs.declared.data.TaskSet.{TaskSet}
use Rattle.code_map.specs.Words.{Code}
use Rattle.crpd_base.specs.Arrivals.{IsLegal}
use Rattle.crpd_base.specs.declared.data.Method.{Method}
use Rattle.crpd_base.specs.declared.data.Method.TheVariants.{Ucb, Ecb}
use Rattle.delay_count.specs.Demand.{charged_delays, gamma}
use Rattle.evict_sets.specs.ListedPart.{certified_task, no_task_part}
use Rattle.loop_regions.specs.TaskGraph.{TaskGraph}
use Rattle.cert_check.specs.JudgeInput.{window_at, certified_part}
use Rattle.preempt_machine.specs.declared.Completion.{Completion}
use Rattle.preempt_machine.specs.declared.End.TheVariants as «end»
use Rattle.preempt_machine.specs.Schedule.{completion, script_line}
use Rattle.preempt_machine.specs.Machine.{System, Standing, Open, Answered, Faulted}
use Rattle.preempt_machine.specs.Step.{Start, state}
use Rattle.preempt_machine.specs.Safe.{system_of, IsAnsweredBy, NamesTasks, end_by}
use Rattle.run_account.specs.declared.told.Account.{Account}
use Rattle.run_account.specs.declared.told.Entry.{Entry}
use Rattle.run_account.specs.Account.{account_entry, IsAccount}
use Rattle.run_account.specs.Fetches.{job_after}
use Rattle.run_account.specs.Facts.{HasFacts}
use Rattle.run_account.specs.Ledger.{LedgerReload, IsWindowStart}
use Rattle.run_account.specs.Nodes.{job_task}
use Rattle.preempt_machine.specs.Starts.{start_of_script}
use Rattle.run_account.proofs.Jobs.{line_is}
use Rattle.run_account.proofs.ReloadFacts.{ledger_facts}
use Rattle.preempt_machine.proofs.Loads.{start_cache_length}
use Rattle.sound_laws.specs.Headline.{IsUndisturbed}
use Rattle.sound_laws.specs.Ledgers.{HasAnswered, is_reload_in_window, charged_job, charged_to}
use Rattle.sound_laws.specs.Walks.{IsCodeOf, RunsLegally}
use Rattle.sound_laws.specs.Accepted.{IsChecked}
use Rattle.sound_laws.specs.CheckedCode.{bounds, CheckedCodeIsBounded, is_in_window}
use Rattle.sound_laws.specs.CheckedCode.{charged_task, CheckedAccountIsWithinDelays}
use Rattle.sound_laws.specs.CheckedCode.{CheckedAccountIsWithinDelay}
use Rattle.sound_laws.proofs.Counts.Counting.{count_map, count_places, spread}
use Rattle.sound_laws.proofs.Execution.Certified.{yes_meets}
use Rattle.sound_laws.proofs.Reloads.CertifiedRuns.{CertifiedRun, by_parts, certified_run}
use Rattle.sound_laws.proofs.Reloads.CertifiedRuns.{graphs_here, sets_met, states_met}
use Rattle.sound_laws.proofs.Walks.CheckedRuns.{cached_run, run_of}
use Rattle.sound_laws.proofs.Windows.Releases.{count}
use Rattle.sound_laws.proofs.Headline.Undisturbed.{undisturbed_bound}
use Rattle.sound_laws.proofs.Headline.InRange.{in_range}
use Rattle.sound_laws.proofs.Delays.Ledgers.{ledger_within_delays}

-- a number of each part, also past the end
map_at : {A : Type 0} (f : A → ℕ) (d : A) (xs : List A) (k : ℕ) → f d ≡ 0
    → get_or (map f xs) k 0 ≡ f (get_or xs k d)
map_at f d [] k e = sym e
map_at f d (x ∷ xs) zero e = refl
map_at f d (x ∷ xs) (suc k) e = map_at f d xs k e

bound_is : (c : Certificate) (k : ℕ) → slice_index (bounds c) k ≡ (certified_task c k).part.bound
bound_is c k = map_at (λ (t : TaskPart). t.part.bound) no_task_part c.tasks k refl

pub code_of : (set : TaskSet) (code : Code) (graphs : ℕ → TaskGraph) (c : Certificate)
    → IsChecked set code graphs c → IsCodeOf (system_of set code) set graphs
code_of set code graphs c K = record { platform = refl; map = K.words; graphs_of = K.graphs_of }

pub checked_code_is_bounded : CheckedCodeIsBounded
checked_code_is_bounded set code graphs c K s n x first same run kept h l still =
    let C : IsCodeOf s.system set graphs =
    subst (λ y. IsCodeOf y set graphs) (sym same) (code_of set code graphs c K) in
    let e : s.system.platform.switch + (certified_task c (job_task s x)).part.bound
    ≡ set.platform.switch + slice_index (bounds c) (job_task s x) =
    ap (λ (y : System). y.platform.switch + (certified_task c (job_task s x)).part.bound) same
    ∙ ap (λ b. set.platform.switch + b) (sym (bound_is c (job_task s x))) in
    subst (λ k. IsAnsweredBy (first + k) (job_after s n x).standing) e
    (undisturbed_bound s set graphs c n x first
    (record { in_range = in_range set K.ranges; code = C; says = K.says }) run kept h
    (subst (λ k. first + k ≤ n) (sym e) l) (subst (λ k. IsUndisturbed s x first k) (sym e) still))

-- a job that is reported as completed has completed
waiting : (b : Bool) (t : ℕ) → (if b then «end».Unreleased else «end».Open) ≡ «end».Answered t → ⊥
waiting true t e = cc
waiting false t e = cc

stands : (time release t : ℕ) (s : Standing) → end_by time release s ≡ «end».Answered t
    → s ≡ Answered t
stands time release t Open e = absurd (waiting (nat_le time release) t e)
stands time release t (Answered u) e = let q : u ≡ t = cc in ap Answered q
stands time release t Faulted e = absurd cc

module _ (set : TaskSet) (code : Code) (graphs : ℕ → TaskGraph) (c : Certificate) (script : Script)
    (a : Account) (K : IsChecked set code graphs c) (T : NamesTasks set script.jobs)
    (legal : IsLegal set script.jobs)
    (I : IsAccount (start_of_script set code script) graphs c script.cycles a)
    (k : IsTrue a.kept) where
  abbrev s : Start
  s = start_of_script set code script

  run : RunsLegally set s
  run =
      let few = K.ranges.platform.sets.1 in
      record {
        cache = omega (arith, few, start_cache_length set.platform script.cache);
        tasks = T;
        legal = legal;
      }

  has_answered : (x start answer : ℕ) → x < length script.jobs
      → (completion a.completions x).«end» ≡ «end».Answered answer → IsWindowStart s x start
      → HasAnswered s set graphs c script.cycles I.ledger x start answer
  has_answered x start answer h e w =
      record {
        in_range = in_range set K.ranges;
        code = code_of set code graphs c K;
        run = run;
        kept = I.kept.0 k;
        is_ledger = I.is_ledger;
        job = h;
        answered =
            stands (state s script.cycles).time (job_after s script.cycles x).line.release answer
            (job_after s script.cycles x).standing
            (sym (ap (λ (d : Completion). d.«end») (I.completions x h)) ∙ e);
        starts = w;
      }

  task_is : (x : ℕ) → x < length script.jobs → job_task s x ≡ (script_line script.jobs x).task.0
  task_is x h = ap (λ (l : ScriptJob). l.task.0) (line_is s 0 x h)

  -- the reloads that pass, as entries of the ledger
  in_ledger : (p : Entry → Bool)
      → count_by p a.entries ≡ count_by (λ (e : LedgerReload). p (account_entry s e)) I.ledger
  in_ledger p = ap (count_by p) I.entries ∙ count_map p (account_entry s) I.ledger

  -- the reloads that a method charges to a task
  in_method : (method : Method) (x start answer j : ℕ)
      → count_by (λ (d : Entry).
      is_in_window (job_task s x) start answer d && (charged_task method d == j)) a.entries
      ≡ count_by (λ (e : LedgerReload).
      is_reload_in_window s x start answer e && charged_to method s j e) I.ledger
  in_method Ucb x start answer j =
      in_ledger (λ (d : Entry).
      is_in_window (job_task s x) start answer d && (charged_task Ucb d == j))
  in_method Ecb x start answer j =
      in_ledger (λ (d : Entry).
      is_in_window (job_task s x) start answer d && (charged_task Ecb d == j))

  within : (method : Method) (x start answer j : ℕ) → x < length script.jobs
      → (completion a.completions x).«end» ≡ «end».Answered answer → IsWindowStart s x start
      → (i : ℕ) → job_task s x ≡ i → j < i
      → count_by (λ (e : Entry). is_in_window i start answer e && (charged_task method e == j))
      a.entries * set.platform.miss
      ≤ gamma set (certified_part c) (window_at c) (window_at c i) method i j
  within method x start answer j h e w i at l =
      subst (λ z. count_by (λ (d : Entry).
      is_in_window z start answer d && (charged_task method d == j))
      a.entries * set.platform.miss
      ≤ gamma set (certified_part c) (window_at c) (window_at c z) method z j) at
      (subst (λ m. m * set.platform.miss
      ≤ gamma set (certified_part c) (window_at c) (window_at c (job_task s x)) method
      (job_task s x) j)
      (sym (in_method method x start answer j))
      (ledger_within_delays set graphs c method K.says s script.cycles I.ledger x start answer j
      (has_answered x start answer h e w) (omega (arith, l, at))))

  -- each reload is charged to a job of a task above its own
  abbrev certified : CertifiedRun
  certified =
      certified_run s set graphs c script.cycles (in_range set K.ranges)
      (code_of set code graphs c K) (yes_meets set graphs c K.says) (run_of run) (I.kept.0 k)

  facts : HasFacts s graphs c I.ledger
  facts =
      ledger_facts s graphs c script.cycles I.ledger (cached_run (by_parts certified))
      (graphs_here certified) (states_met certified) (sets_met certified) I.is_ledger

  abbrev no_reload : LedgerReload
  no_reload = record { job = 0; set = 0; time = 0; evictor = 0; preemptor = 0 }

  abbrev reload_at : ℕ → LedgerReload
  reload_at m = get_or I.ledger m no_reload

  charged_higher : (method : Method) (m : ℕ) → m < length I.ledger
      → job_task s (charged_job method (reload_at m)) < job_task s (reload_at m).job
  charged_higher Ucb m l = (facts.of_higher m _ l (I.is_ledger.reloads m _ l).1).evictor
  charged_higher Ecb m l = (facts.of_higher m _ l (I.is_ledger.reloads m _ l).1).preemptor

  -- so those of a window are at most the sum over all higher tasks
  abbrev charged_count : Method → ℕ → ℕ → ℕ → ℕ → ℕ
  charged_count method x start answer j =
      count_by (λ (d : Entry).
      is_in_window (job_task s x) start answer d && (charged_task method d == j)) a.entries

  count_at : (method : Method) (x start answer j : ℕ)
      → count (λ m. is_reload_in_window s x start answer (reload_at m)
      && charged_to method s j (reload_at m)) (length I.ledger)
      ≡ charged_count method x start answer j
  count_at method x start answer j =
      sym (in_method method x start answer j
      ∙ count_places (λ (e : LedgerReload).
      is_reload_in_window s x start answer e && charged_to method s j e) no_reload I.ledger)

  by_task : (method : Method) (x start answer : ℕ)
      → count_by (is_in_window (job_task s x) start answer) a.entries
      ≤ sum_below (charged_count method x start answer) (job_task s x)
  by_task method x start answer =
      let places = in_ledger (is_in_window (job_task s x) start answer)
      ∙ count_places (is_reload_in_window s x start answer) no_reload I.ledger in
      let all = spread (λ m. is_reload_in_window s x start answer (reload_at m))
      (λ m. job_task s (charged_job method (reload_at m))) (length I.ledger) (job_task s x)
      (λ m l b.
      let up = charged_higher method m l in
      let by : job_task s (reload_at m).job ≤ job_task s x = leb-true _ _
      (and_parts (nat_le start (reload_at m).time && nat_lt (reload_at m).time answer) _ b).1 in
      omega (arith, up, by)) in
      let same = sum_same (λ j. count (λ m. is_reload_in_window s x start answer (reload_at m)
      && charged_to method s j (reload_at m)) (length I.ledger))
      (charged_count method x start answer) (job_task s x)
      (λ j l. count_at method x start answer j) in
      omega (arith, places, all, same)

  together : (x start answer : ℕ) → x < length script.jobs
      → (completion a.completions x).«end» ≡ «end».Answered answer → IsWindowStart s x start
      → (i : ℕ) → job_task s x ≡ i
      → count_by (is_in_window i start answer) a.entries * set.platform.miss
      ≤ charged_delays set (certified_part c) (window_at c) i (certified_task c i).method
      (window_at c i)
  together x start answer h e w i at =
      subst (λ z. count_by (is_in_window z start answer) a.entries * set.platform.miss
      ≤ charged_delays set (certified_part c) (window_at c) z (certified_task c z).method
      (window_at c z)) at
      (let method = (certified_task c (job_task s x)).method in
      let each = sum_le (λ j. set.platform.miss * charged_count method x start answer j)
      (gamma set (certified_part c) (window_at c) (window_at c (job_task s x)) method
      (job_task s x)) (job_task s x) (λ j l.
      let one = within method x start answer j h e w (job_task s x) refl l in
      let turn = mul_comm set.platform.miss (charged_count method x start answer j) in
      omega (arith, one, turn)) in
      let times = sum_times set.platform.miss (charged_count method x start answer)
      (job_task s x) in
      let all = mul-le-mul_left set.platform.miss (by_task method x start answer) in
      let turn = mul_comm set.platform.miss
      (count_by (is_in_window (job_task s x) start answer) a.entries) in
      omega (arith, each, times, all, turn))

pub checked_account_is_within_delays : CheckedAccountIsWithinDelays
checked_account_is_within_delays set code graphs c script a K T legal I k method x start answer j h
    e w l =
    within set code graphs c script a K T legal I k method x start answer j h e w
    (script_line script.jobs x).task.0 (task_is set code graphs c script a K T legal I k x h) l

pub checked_account_is_within_delay : CheckedAccountIsWithinDelay
checked_account_is_within_delay set code graphs c script a K T legal I k x start answer h e w =
    together set code graphs c script a K T legal I k x start answer h e w
    (script_line script.jobs x).task.0 (task_is set code graphs c script a K T legal I k x h)
