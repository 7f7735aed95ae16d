-- For step 7: in a checked run each step of a job spends a cycle of those that remain, and at a
-- reload the cost of a miss.
use Rattle.std.proofs.Common.{◌≡◌, ℕ, zero, suc, ◌+◌, ◌*◌, ◌<◌, ◌≤◌, ◌≢◌, true, false, ◌&&◌, length}
use Rattle.std.proofs.Common.{Some, inl, inr, arith, nat_le}
use Rattle.std.proofs.lemmas.Bool.{cases_Bool, cases_lt, le-leb}
use Rattle.crpd_base.specs.Sum.{sum_below}
use Rattle.preempt_machine.specs.Step.{state}
use Rattle.preempt_machine.proofs.Steps.{open_is_below}
use Rattle.run_account.specs.Fetches.{job_after}
use Rattle.run_account.proofs.Jobs.{jobs_length}
use Rattle.run_account.proofs.Owners.{candidate_at, was_owner}
use Rattle.run_account.specs.Nodes.{job_task, plan_at}
use Rattle.run_account.specs.Walks.{fetched_nodes}
use Rattle.sound_laws.specs.CyclesToGo.{cycles_to_go}
use Rattle.sound_laws.proofs.Windows.Accounts.{Spends}
use Rattle.sound_laws.proofs.Windows.Busy.{task_at}
use Rattle.sound_laws.proofs.Windows.Releases.{count}
use Rattle.sound_laws.proofs.Execution.Spends.{go_over}
use Rattle.sound_laws.proofs.Execution.Executed.{some_go, go_other, go_own, go_fresh}
use Rattle.sound_laws.proofs.Walks.CheckedRuns.{CheckedRun, bound_of, walks_at, sound_at}
use Rattle.sound_laws.proofs.Walks.CheckedRuns.{is_below, kept_at, past_over}
use Rattle.sound_laws.proofs.Reloads.Checked.{is_reload, extra, extra_is}

module _ (K : CheckedRun) where
  open K use {start as s, set, graphs, horizon, in_range as R, code as C, run}

  -- the cycles that remain for a job
  abbrev pub rest : ℕ → ℕ → ℕ
  rest n x =
      cycles_to_go s.system (plan_at s x) (graphs (job_task s x))
      (walks_at K x).rest (job_after s n x) (fetched_nodes s graphs n x)

  pub rest_keeps : (n x : ℕ) → candidate_at s n ≢ Some x → rest (suc n) x ≤ rest n x
  rest_keeps n x ne =
      elim (cases_lt x (length s.lines)) [
        | inl h ↦ let same =
            go_other s set graphs R C run.tasks (walks_at K x) x h (sound_at K x h) n ne in omega (arith, same)
        | inr g ↦
            let none = go_over s.system (plan_at s x) (graphs (job_task s x))
            (walks_at K x).rest (job_after s (suc n) x)
            (fetched_nodes s graphs (suc n) x) (past_over K (suc n) x g) in
            omega (arith, none)
      ]

  pub rest_spends : Spends s rest (extra K) horizon
  rest_spends =
      record {
        spends = λ n y early e.
            let h = is_below K n y e in
            let less = go_own s set graphs R C run.tasks (walks_at K y) y h (sound_at K y h) n e (kept_at K (suc n) y early h) in
            omega (arith, less, extra_is K n y early e);
        keeps = λ n x early ne. rest_keeps n x ne;
        some = λ n x early o.
            let h : x < length s.lines = let b = open_is_below (state s n).jobs x o in
            omega (arith, b, jobs_length s n) in
            some_go s set graphs R C run.tasks (walks_at K x) x h (sound_at K x h) n o (kept_at K n x early h);
      }

  pub fresh : (n x : ℕ) → was_owner s n x ≡ false → rest n x ≤ bound_of K (task_at s x)
  fresh n x w =
      elim (cases_lt x (length s.lines)) [
        | inl h ↦
            go_fresh s set graphs R C run.tasks (walks_at K x) x h (sound_at K x h) n (kept_at K 0 x (omega arith) h) w
        | inr g ↦
            let none = go_over s.system (plan_at s x) (graphs (job_task s x))
            (walks_at K x).rest (job_after s n x)
            (fetched_nodes s graphs n x) (past_over K n x g) in
            omega (arith, none)
      ]

  -- the cost of the reloads since a time
  pub extra_counts : (from to : ℕ) → from ≤ to
      → sum_below (extra K) to
      ≤ sum_below (extra K) from + s.system.platform.miss * count
      (λ n. nat_le from n && is_reload K n) to
  extra_counts from zero h = let e : from ≡ 0 = omega arith in rw e (omega arith)
  extra_counts from (suc n) h =
      elim (cases_lt n from) [
        | inl l ↦ let e : from ≡ suc n = omega arith in rw e (omega arith)
        | inr g ↦
            let r = extra_counts from n g in
            let b : nat_le from n ≡ true = le-leb from n g in
            elim (cases_Bool (is_reload K n)) [
              | inl q ↦ rw (b, q) (omega (arith, r))
              | inr q ↦ rw (b, q) (omega (arith, r))
            ]
      ]
