-- Every run with listings that satisfy the clauses on full states has an account.
use Rattle.std.proofs.Common.{◌≡◌, ℕ, List, length, map, refl, Bool, IsTrue, ◌↔◌}
use Rattle.crpd_base.specs.declared.data.Certificate.{Certificate}
use Rattle.loop_regions.specs.TaskGraph.{TaskGraph}
use Rattle.preempt_machine.specs.Running.{completion_at}
use Rattle.preempt_machine.specs.Safe.{IsKept}
use Rattle.preempt_machine.specs.Step.{Start, state}
use Rattle.preempt_machine.specs.declared.Completion.{Completion}
use Rattle.run_account.specs.Account.{IsAccount, account_entry}
use Rattle.run_account.specs.Ledger.{IsLedger, LedgerReload}
use Rattle.run_account.specs.declared.told.Account.{Account}
use Rattle.run_account.proofs.Causes.{run_has_ledger}
use Rattle.run_account.specs.AccountEnds.{AnAccountExists}
use Rattle.crpd_base.proofs.Classical.{AreValues, a_list, a_test, unrefuted, value_at}

module _ (s : Start) (graphs : ℕ → TaskGraph) (c : Certificate) (n : ℕ) where
  abbrev StandsSo : ℕ → Completion → Type 0
  StandsSo x e = e ≡ completion_at (state s n) x

  abbrev told : List LedgerReload → List Completion → Bool → Account
  told ledger completions kept = record {
    entries = map (account_entry s) ledger;
    completions = completions;
    kept = kept;
  }

  is_account : (ledger : List LedgerReload) → IsLedger s graphs c n ledger
      → (completions : List Completion) → AreValues StandsSo (length s.lines) completions
      → (kept : Bool) → IsTrue kept ↔ IsKept (state s n)
      → IsAccount s graphs c n (told ledger completions kept)
  is_account ledger L completions V kept K = record {
    ledger = ledger;
    is_ledger = L;
    entries = refl;
    all_jobs = V.count;
    completions = value_at StandsSo (length s.lines) completions _ V;
    kept = K;
  }

pub an_account_exists : AnAccountExists
an_account_exists s graphs c n C G L none =
    let ledger = run_has_ledger s graphs c n C G L in
    a_list (StandsSo s graphs c n) (length s.lines)
    (λ x lt. unrefuted (completion_at (state s n) x, refl)) (λ completions.
    a_test (IsKept (state s n)) (λ kept.
    none (told s graphs c n ledger.0 completions.0 kept.0)
    (is_account s graphs c n ledger.0 ledger.1 completions.0 completions.1 kept.0 kept.1)))
