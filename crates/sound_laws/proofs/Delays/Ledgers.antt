-- Step 6, ledger_within_delays: the ledger's reloads of a window, counted as the steps at which
-- they are made, are within the delays that cover them.
use Rattle.std.proofs.Common.{◌≡◌, ℕ, suc, ◌+◌, ◌*◌, ◌<◌, ◌≤◌, Bool, true, false, ◌&&◌, List, []}
use Rattle.std.proofs.Common.{◌∷◌, refl, sym, ◌∙◌, ap, subst, inl, inr, arith, nat_lt, nat_le}
use Rattle.std.proofs.Common.{mul-le-mul_left, mul_comm, ◌==◌, All, AllPairs, count_by}
use Rattle.std.specs.List.{list_any}
use Rattle.std.proofs.lemmas.Bool.{cases_Bool, false≢true, and_parts, or_cases, ltb-true, leb-true}
use Rattle.std.proofs.lemmas.Bool.{eqb-true, eq-eqb, or_right}
use Rattle.crpd_base.specs.Sum.{one_if}
use Rattle.crpd_base.proofs.Sums.{sum_change}
use Rattle.crpd_base.specs.declared.data.TaskSet.{TaskSet}
use Rattle.crpd_base.specs.declared.data.Certificate.{Certificate}
use Rattle.crpd_base.specs.declared.data.Method.{Method}
use Rattle.crpd_base.specs.declared.data.Method.TheVariants.{Ucb, Ecb}
use Rattle.delay_count.specs.Demand.{gamma}
use Rattle.loop_regions.specs.TaskGraph.{TaskGraph}
use Rattle.cert_check.specs.JudgeInput.{window_at, certified_part}
use Rattle.preempt_machine.specs.Machine.{Job}
use Rattle.preempt_machine.specs.Step.{is_open, Start}
use Rattle.preempt_machine.proofs.Runs.{over_stays}
use Rattle.run_account.specs.Fetches.{job_after}
use Rattle.run_account.specs.Nodes.{job_task}
use Rattle.run_account.specs.Ledger.{LedgerReload, IsOfRun}
use Rattle.run_account.proofs.AnswerTimes.{answered_by}
use Rattle.sound_laws.specs.Windows.{HasWindow, IsCharged, ChargedTo, CoversReloads}
use Rattle.sound_laws.specs.Ledgers.{HasAnswered, is_reload_in_window, charged_job, charged_to}
use Rattle.sound_laws.specs.Ledgers.{CoversLedgers, LedgerWithinDelays}
use Rattle.sound_laws.proofs.Windows.Releases.{count, one_le}
use Rattle.sound_laws.proofs.Counts.Counting.{count_le, counted, counted_is}
use Rattle.run_account.proofs.ReloadFacts.{kept_at}
use Rattle.sound_laws.proofs.Delays.WindowDelays.{reloads_within_delays}

-- whether a reload that passes a test is made at a step
abbrev made_at : (LedgerReload → Bool) → List LedgerReload → ℕ → Bool
made_at p es n = list_any (λ (e : LedgerReload). (e.time == n) && p e) es

-- the reload at a step
pub record IsMade (P : LedgerReload → Type 0) (p : LedgerReload → Bool) (n : ℕ) : Type 0 where
  pub reload : LedgerReload
  pub at : reload.time ≡ n
  pub passes : p reload ≡ true
  pub holds : P reload

made_by : (P : LedgerReload → Type 0) (p : LedgerReload → Bool) (es : List LedgerReload) (n : ℕ)
    → All P es → made_at p es n ≡ true → IsMade P p n
made_by P p [] n h m = absurd (false≢true m)
made_by P p (e ∷ es) n h m =
    elim (or_cases ((e.time == n) && p e) (made_at p es n) m) [
      | inl b ↦ let q = and_parts (e.time == n) (p e) b in record {
        reload = e;
        at = eqb-true e.time n q.0;
        passes = q.1;
        holds = h 0 e (omega arith);
      }
      | inr b ↦ made_by P p es n (λ k d l. h (suc k) d (omega (arith, l))) b
    ]

abbrev Rises : List LedgerReload → Type 0
Rises es = AllPairs (λ (d e : LedgerReload). d.time < e.time) es

-- none is made later at the first one's step
none_later : (p : LedgerReload → Bool) (e : LedgerReload) (es : List LedgerReload) → Rises (e ∷ es)
    → made_at p es e.time ≡ false
none_later p e es r =
    elim (cases_Bool (made_at p es e.time)) [
      | inr b ↦ b
      | inl b ↦
          let m = made_by (λ (d : LedgerReload). e.time < d.time) p es e.time
          (λ k d l. r 0 (suc k) d (omega arith) (omega (arith, l))) b in
          let late = m.holds in
          let at = m.at in
          absurd (omega (arith, late, at))
    ]

one_more : (p : LedgerReload → Bool) (e : LedgerReload) (es : List LedgerReload) → p e ≡ true
    → counted p (e ∷ es) ≡ 1 + counted p es
unfolding counted
one_more p e es b = rw b refl

no_more : (p : LedgerReload → Bool) (e : LedgerReload) (es : List LedgerReload) → p e ≡ false
    → counted p (e ∷ es) ≡ counted p es
unfolding counted
no_more p e es b = rw b refl

-- the reloads that pass are made at that many steps
many_steps : (p : LedgerReload → Bool) (until : ℕ) (es : List LedgerReload) → Rises es
    → ((e : LedgerReload) → p e ≡ true → e.time < until)
    → counted p es ≤ count (made_at p es) until
many_steps p until [] r early = unfold counted in omega arith
many_steps p until (e ∷ es) r early =
    let rest = many_steps p until es
    (λ i j d l k. r (suc i) (suc j) d (omega (arith, l)) (omega (arith, k))) early in
    elim (cases_Bool (p e)) [
      | inl b ↦
          let none : one_if (made_at p es e.time) ≡ 0 = rw (none_later p e es r) refl in
          let one : one_if (made_at p (e ∷ es) e.time) ≡ 1 =
          rw (eq-eqb e.time e.time refl, b) refl in
          let more = sum_change (λ n. one_if (made_at p (e ∷ es) n)) (λ n. one_if (made_at p es n))
          until e.time 1 0 (early e b) (omega (arith, none, one))
          (λ n below ne. one_le (made_at p es n) (made_at p (e ∷ es) n)
          (or_right ((e.time == n) && p e) (made_at p es n))) in
          omega (arith, rest, more, one_more p e es b)
      | inr b ↦
          let more = count_le (made_at p es) (made_at p (e ∷ es)) until
          (λ n l h. or_right ((e.time == n) && p e) (made_at p es n) h) in
          omega (arith, rest, more, no_more p e es b)
    ]

within_steps : (p : LedgerReload → Bool) (until : ℕ) (es : List LedgerReload) → Rises es
    → ((e : LedgerReload) → p e ≡ true → e.time < until)
    → count_by p es ≤ count (made_at p es) until
within_steps p until es r early =
    subst (λ k. k ≤ count (made_at p es) until)
    (counted_is p es)
    (many_steps p until es r early)

module _ (s : Start) (set : TaskSet) (graphs : ℕ → TaskGraph) (c : Certificate) (n : ℕ)
    (ledger : List LedgerReload) (x start answer : ℕ)
    (H : HasAnswered s set graphs c n ledger x start answer) where
  answer_by : answer ≤ n
  answer_by = answered_by s n x answer H.answered

  open_before : (m : ℕ) → m < answer → is_open (job_after s m x).standing ≡ true
  open_before m l =
      elim (cases_Bool (is_open (job_after s m x).standing)) [
        | inl b ↦ b
        | inr b ↦
            let by = answer_by in
            let same = over_stays s x m n (omega (arith, l, by)) b in
            let early = answered_by s m x answer
            (ap (λ (j : Job). j.standing) (sym same) ∙ H.answered) in
            absurd (omega (arith, early, l))
      ]

  has_window : HasWindow s set graphs x start answer
  has_window =
      record {
        in_range = H.in_range;
        code = H.code;
        run = H.run;
        kept = kept_at s graphs answer n answer_by H.kept;
        job = H.job;
        starts = H.starts;
        open_before = open_before;
      }

  module _ (test : LedgerReload → Bool) where
    abbrev of_window : LedgerReload → Bool
    of_window e = is_reload_in_window s x start answer e && test e

    -- what the test of the window means
    pub record InWindow (e : LedgerReload) : Type 0 where
      pub late : start ≤ e.time
      pub early : e.time < answer
      pub by : job_task s e.job ≤ job_task s x
      pub passes : test e ≡ true

    in_window : (e : LedgerReload) → of_window e ≡ true → InWindow e
    in_window e b =
        let one = and_parts (is_reload_in_window s x start answer e) (test e) b in
        let two = and_parts (nat_le start e.time && nat_lt e.time answer)
        (nat_le (job_task s e.job) (job_task s x)) one.0 in
        let three = and_parts (nat_le start e.time) (nat_lt e.time answer) two.0 in
        record {
          late = leb-true _ _ three.0;
          early = ltb-true _ _ three.1;
          by = leb-true _ _ two.1;
          passes = one.1;
        }

    made : (t : ℕ) → made_at of_window ledger t ≡ true
        → IsMade (λ (e : LedgerReload). (e.time < n) × IsOfRun s graphs c e) of_window t
    made t b =
        made_by (λ (e : LedgerReload). (e.time < n) × IsOfRun s graphs c e) of_window ledger t
        H.is_ledger.reloads b

    few : count_by of_window ledger ≤ count (made_at of_window ledger) answer
    few = within_steps of_window answer ledger H.is_ledger.in_order (λ e b. (in_window e b).early)

  charged_at : (method : Method) (e : LedgerReload) → IsOfRun s graphs c e
      → IsCharged method s graphs c e.time e.job (charged_job method e)
  charged_at Ucb e r = r.evicted
  charged_at Ecb e r = r.preempted

  made_of : (method : Method) (j t : ℕ)
      → made_at (of_window (charged_to method s j)) ledger t ≡ true
      → (t < answer) × ChargedTo method s graphs c x start j t
  made_of method j t b =
      let m = made (charged_to method s j) t b in
      let e = m.reload in
      let w = in_window (charged_to method s j) e m.passes in
      subst (λ u. (u < answer) × ChargedTo method s graphs c x start j u) m.at (
        w.early,
        (
          w.late,
          e.job,
          charged_job method e,
          w.by,
          eqb-true _ _ w.passes,
          charged_at method e m.holds.1,
        ),
      )

times_within : (a b miss most : ℕ) → a ≤ b → miss * b ≤ most → a * miss ≤ most
times_within a b miss most le h =
    let more = mul-le-mul_left miss le in
    let turn : a * miss ≡ miss * a = mul_comm a miss in
    omega (arith, more, turn, h)

-- a delay that covers the reloads covers those of the ledger
pub covers_ledgers : (set : TaskSet) (graphs : ℕ → TaskGraph) (c : Certificate) (method : Method)
    (delay : ℕ → ℕ → ℕ) → CoversReloads set graphs c method delay
    → CoversLedgers set graphs c method delay
covers_ledgers set graphs c method delay covers s n ledger x start answer j H l =
    times_within _ _ set.platform.miss _
    (few s set graphs c n ledger x start answer H (charged_to method s j))
    (covers s x start answer j _
    (has_window s set graphs c n ledger x start answer H) (omega (arith, l))
    (made_of s set graphs c n ledger x start answer H method j))

pub ledger_within_delays : LedgerWithinDelays
ledger_within_delays set graphs c method says =
    covers_ledgers set graphs c method
    (λ i. gamma set (certified_part c) (window_at c) (window_at c i) method i)
    (reloads_within_delays set graphs c method says)
