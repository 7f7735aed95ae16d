-- A run has an account.
use Rattle.std.specs.Prelude.{ℕ}
use Rattle.crpd_base.specs.declared.data.Certificate.{Certificate}
use Rattle.loop_regions.specs.TaskGraph.{TaskGraph}
use Rattle.preempt_machine.specs.Step.{Start}
use Rattle.run_account.specs.Account.{IsAccount}
use Rattle.run_account.specs.Causes.{AreListingsMet}
use Rattle.run_account.specs.Fetches.{HasCache}
use Rattle.run_account.specs.Walks.{HasGraphs}
use Rattle.run_account.specs.declared.told.Account.{Account}

-- it cannot be refuted that there is an account
abbrev pub AnAccountExists : Type 0
AnAccountExists =
    (s : Start) (graphs : ℕ → TaskGraph) (c : Certificate) (n : ℕ) →
    HasCache s → HasGraphs s graphs → AreListingsMet s graphs c
    → ((a : Account) → IsAccount s graphs c n a → ⊥) → ⊥
