-- A ledger does not depend on regions, nor does an account.
use Rattle.std.proofs.Common.{ℕ, List, get_or}
use Rattle.crpd_base.specs.declared.data.Certificate.{Certificate}
use Rattle.flat_graph.specs.CodeGraph.{CodeGraph}
use Rattle.loop_regions.specs.Nest.{Nest}
use Rattle.preempt_machine.specs.Step.{Fetch, Start}
use Rattle.run_account.specs.declared.told.Account.{Account}
use Rattle.run_account.specs.Account.{IsAccount}
use Rattle.run_account.specs.AccountGraphs.{with_nests}
use Rattle.run_account.specs.Ledger.{IsLedgerReload, LedgerReload, IsOfRun, IsLedger}

module _ (s : Start) (graphs : List CodeGraph) (c : Certificate) where
  reload_by : (a b : ℕ → Nest) (n x : ℕ) (f : Fetch)
      → IsLedgerReload s (with_nests graphs a) c n x f
      → IsLedgerReload s (with_nests graphs b) c n x f
  reload_by a b n x f E = record {
    kept = E.kept;
    fetches = E.fetches;
    node = E.node;
    at = E.at;
    counted = E.counted;
    misses = E.misses;
  }

  of_run_by : (a b : ℕ → Nest) (e : LedgerReload) → IsOfRun s (with_nests graphs a) c e
      → IsOfRun s (with_nests graphs b) c e
  of_run_by a b e E =
      record {
        evicted = record {
          fetch = E.evicted.fetch;
          reload = reload_by a b e.time e.job E.evicted.fetch E.evicted.reload;
          time = E.evicted.time;
          last = E.evicted.last;
          is = E.evicted.is;
        };
        preempted = record {
          fetch = E.preempted.fetch;
          reload = reload_by a b e.time e.job E.preempted.fetch E.preempted.reload;
          from = E.preempted.from;
          time = E.preempted.time;
          until = E.preempted.until;
          is = E.preempted.is;
        };
        to_set = E.to_set;
      }

  pub ledger_by : (a b : ℕ → Nest) (n : ℕ) (ledger : List LedgerReload)
      → IsLedger s (with_nests graphs a) c n ledger → IsLedger s (with_nests graphs b) c n ledger
  ledger_by a b n ledger L =
      record {
        reloads = λ k e l. let q = L.reloads k e l in (q.0, of_run_by a b (get_or ledger k e) q.1);
        in_order = L.in_order;
        complete = λ t x f l E. L.complete t x f l (reload_by b a t x f E);
      }

  pub account_by : (a b : ℕ → Nest) (n : ℕ) (x : Account) → IsAccount s (with_nests graphs a) c n x
      → IsAccount s (with_nests graphs b) c n x
  account_by a b n x A = record {
    ledger = A.ledger;
    is_ledger = ledger_by a b n A.ledger A.is_ledger;
    entries = A.entries;
    all_jobs = A.all_jobs;
    completions = A.completions;
    kept = A.kept;
  }
