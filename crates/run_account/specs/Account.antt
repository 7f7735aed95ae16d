-- What an account reports of a run.
use Rattle.std.specs.Prelude.{◌≡◌, ℕ, ◌<◌, ◌↔◌, List, length, map, IsTrue}
use Rattle.crpd_base.specs.declared.data.Certificate.{Certificate}
use Rattle.loop_regions.specs.TaskGraph.{TaskGraph}
use Rattle.preempt_machine.specs.Running.{job_id, completion_at}
use Rattle.preempt_machine.specs.Safe.{IsKept}
use Rattle.preempt_machine.specs.Schedule.{completion}
use Rattle.preempt_machine.specs.Step.{Start, state}
use Rattle.run_account.specs.declared.told.Account.{Account}
use Rattle.run_account.specs.declared.told.Entry.{Entry}
use Rattle.run_account.specs.Ledger.{LedgerReload, IsLedger}
use Rattle.run_account.specs.Facts.{HasFacts}

-- a reload of the ledger as the account reports it: its jobs by task and number
abbrev pub account_entry : Start → LedgerReload → Entry
account_entry s e =
    record {
      job = job_id (state s 0) e.job;
      set = e.set;
      time = e.time;
      evictor = job_id (state s 0) e.evictor;
      preemptor = job_id (state s 0) e.preemptor;
    }

-- the ledger of the first n steps of a run, the completions of the jobs after them, in the script's
-- order, and whether no watch is broken
pub record IsAccount (s : Start) (graphs : ℕ → TaskGraph) (c : Certificate) (n : ℕ)
    (a : Account) : Type 0 where
  pub ledger : List LedgerReload
  pub is_ledger : IsLedger s graphs c n ledger
  pub entries : a.entries ≡ map (account_entry s) ledger
  pub all_jobs : length a.completions ≡ length s.lines
  pub completions : (x : ℕ) → x < length s.lines
      → completion a.completions x ≡ completion_at (state s n) x
  pub kept : IsTrue a.kept ↔ IsKept (state s n)

-- an account with the facts of its reloads that hold of every run
pub record HasAccountFacts (s : Start) (graphs : ℕ → TaskGraph) (c : Certificate) (n : ℕ)
    (a : Account) : Type 0 where
  pub ledger : List LedgerReload
  pub is_ledger : IsLedger s graphs c n ledger
  pub entries : a.entries ≡ map (account_entry s) ledger
  pub facts : HasFacts s graphs c ledger
