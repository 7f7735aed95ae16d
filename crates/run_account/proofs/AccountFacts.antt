-- The facts of an account's reloads.
use Rattle.std.proofs.Common.{ℕ}
use Rattle.loop_regions.specs.Nest.{Nest}
use Rattle.run_account.specs.declared.run.Run.{Run}
use Rattle.run_account.specs.declared.told.Account.{Account}
use Rattle.run_account.specs.Account.{IsAccount, HasAccountFacts}
use Rattle.run_account.specs.Facts.{AreSetsMet}
use Rattle.run_account.specs.Nodes.{job_task}
use Rattle.run_account.specs.Inner.Runs.{run_start, run_certificate, HasAccountInput}
use Rattle.run_account.specs.AccountGraphs.{with_nests, SetsAreMet}
use Rattle.run_account.specs.Walks.{HasGraphs}
use Rattle.run_account.proofs.ReloadFacts.{ledger_facts}
use Rattle.run_account.proofs.Ready.{cached, task_below, has_graphs, states_met}

module _ (r : Run) (R : HasAccountInput r) (nests : ℕ → Nest) where
  -- a ledger does not depend on regions
  graphs_with : HasGraphs (run_start r) (with_nests r.graphs.now nests)
  graphs_with =
      let G = has_graphs r R in
      record {
        code = G.code;
        hit = G.hit;
        graph = λ x h. let g = G.graph x h in record {
          follows = g.follows;
          no_errors = g.no_errors;
        };
      }

  sets_met : SetsAreMet r.set.now r.graphs.now r.certificate.now
      → AreSetsMet (run_start r) (with_nests r.graphs.now nests) (run_certificate r)
  sets_met U x h = U (job_task (run_start r) x) (task_below r R x h)

  pub account_facts : SetsAreMet r.set.now r.graphs.now r.certificate.now → (n : ℕ) (a : Account)
      → IsAccount (run_start r) (with_nests r.graphs.now nests) (run_certificate r) n a
      → HasAccountFacts (run_start r) (with_nests r.graphs.now nests) (run_certificate r) n a
  account_facts U n a I =
      record {
        ledger = I.ledger;
        is_ledger = I.is_ledger;
        entries = I.entries;
        facts =
            ledger_facts (run_start r) (with_nests r.graphs.now nests) (run_certificate r) n
            I.ledger (cached r R) graphs_with (states_met r R) (sets_met U) I.is_ledger;
      }
