-- For steps 5 and 6: a kept run of a set with the certificate that the checker accepts, and its
-- ledger: the reloads by the certificate's parts are those of the ledger.
use Rattle.std.proofs.Common.{◌≡◌, ℕ, ◌<◌, ◌≤◌, true, length, sym, subst}
use Rattle.std.proofs.Common.{arith}
use Rattle.crpd_base.specs.declared.data.Certificate.{Certificate}
use Rattle.crpd_base.specs.declared.data.Platform.{Platform}
use Rattle.crpd_base.specs.declared.data.TaskSet.{TaskSet}
use Rattle.evict_sets.specs.ListedPart.{certified_task}
use Rattle.cert_check.specs.JudgeInput.{window_at}
use Rattle.loop_regions.specs.TaskGraph.{TaskGraph}
use Rattle.preempt_machine.specs.Step.{Fetch, Start, state}
use Rattle.preempt_machine.specs.Safe.{IsKept}
use Rattle.run_account.specs.Facts.{AreSetsMet}
use Rattle.run_account.specs.Fetches.{job_after}
use Rattle.run_account.specs.Ledger
use Rattle.run_account.specs.Nodes.{job_task, plan_at, node_of_job}
use Rattle.run_account.specs.Walks.{fetched_nodes, AreStatesMet, HasGraphs}
use Rattle.run_account.proofs.OwnFetches.{own_candidate}
use Rattle.run_account.proofs.JobWalks.{counts_node}
use Rattle.run_account.proofs.ReloadFacts.{kept_at as kept_then}
use Rattle.sound_laws.specs.Walks.{HasTaskRanges, IsCodeOf, MeetsGraphs, before_of}
use Rattle.sound_laws.specs.StepTests.{is_counted}
use Rattle.sound_laws.proofs.Execution.Certified.{IsMet, counted_at, met_at, task_walks, task_sound}
use Rattle.sound_laws.proofs.Walks.CheckedRuns.{CheckedRun, RunsJobsOf, KeptRun, kept_run}
use Rattle.sound_laws.proofs.Walks.CheckedRuns.{checked_run, below_tasks, is_opened, is_below, kept_at}
use Rattle.sound_laws.proofs.Walks.KeptWalks.{ok, walking}
use Rattle.sound_laws.proofs.Walks.Stands.{walk_node}
use Rattle.sound_laws.proofs.Reloads.OwnFetches.{has_graphs, there}
use Rattle.sound_laws.proofs.Reloads.Checked.{is_reload, reload_test, victim, IsCheckedReload}

-- a run of a set with its code and the code's graphs, where the parts of a certificate satisfy the
-- graphs' clauses: it is kept up to the horizon
pub record CertifiedRun : Type 0 where
  pub start : Start
  pub set : TaskSet
  pub graphs : ℕ → TaskGraph
  pub certificate : Certificate
  pub horizon : ℕ
  pub in_range : HasTaskRanges set
  pub code : IsCodeOf start.system set graphs
  pub meets : MeetsGraphs set graphs certificate
  pub run : RunsJobsOf set start
  pub kept : IsKept (state start horizon)

-- the record of these parts
abbrev pub certified_run : (s : Start) (set : TaskSet) (graphs : ℕ → TaskGraph) (c : Certificate)
    (n : ℕ) → HasTaskRanges set → IsCodeOf s.system set graphs → MeetsGraphs set graphs c
    → RunsJobsOf set s → IsKept (state s n) → CertifiedRun
certified_run s set graphs c n R C meets run kept =
    record {
      start = s;
      set = set;
      graphs = graphs;
      certificate = c;
      horizon = n;
      in_range = R;
      code = C;
      meets = meets;
      run = run;
      kept = kept;
    }

module _ (L : CertifiedRun) where
  open L use {
    start as s,
    set,
    graphs,
    certificate as c,
    horizon,
    in_range as R,
    code as C,
    meets,
    run,
    kept,
  }

  abbrev pub base : KeptRun
  base = kept_run s set graphs (window_at c) horizon R C run kept

  -- the run with the certificate's parts
  abbrev pub by_parts : CheckedRun
  by_parts =
      checked_run base (task_walks s.system set graphs C c meets)
      (task_sound s.system set graphs C c meets)

  -- what the laws on ledgers require of such a run
  pub graphs_here : HasGraphs s graphs
  graphs_here = has_graphs s set graphs R C run.tasks

  -- the clauses of the task of each job
  pub met : (x : ℕ) → x < length s.lines
      → IsMet s.system.platform (graphs (job_task s x)) (certified_task c (job_task s x))
      (counted_at s.system set graphs C c meets (job_task s x))
  met x h =
      subst (λ (p : Platform). IsMet p (graphs (job_task s x)) (certified_task c (job_task s x))
      (counted_at s.system set graphs C c meets (job_task s x))) (sym C.platform)
      (met_at s.system set graphs C c meets (job_task s x) (below_tasks by_parts x h))

  pub states_met : AreStatesMet s graphs c
  states_met x h = (met x h).all.listing.states

  pub sets_met : AreSetsMet s graphs c
  sets_met x h = (met x h).all.sets

  -- a reload of the ledger passes the test of the account
  pub ledger_test : (n x : ℕ) (f : Fetch) → n < horizon → Ledger.IsLedgerReload s graphs c n x f
      → is_reload by_parts n ≡ true
  ledger_test n x f l e =
      let mine = own_candidate s x n f e.fetches in
      let hx = is_below by_parts n x mine in
      let o = is_opened by_parts n x mine in
      let k = kept_at by_parts n x (omega arith) hx in
      let W = (walking s set graphs R C run.tasks n x hx k).on_walk o in
      let node = walk_node s.system (plan_at s x) (graphs (job_task s x))
      (ok s set graphs R C run.tasks x hx) C.map
      (node_of_job (graphs (job_task s x)) (job_after s n x))
      (before_of (job_after s n x) (fetched_nodes s graphs n x)) W.walked.walk in
      let counted : is_counted s graphs
      (task_walks s.system set graphs C c meets (job_task s x)).counts x n ≡ true =
      ((met x hx).hits (node_of_job (graphs (job_task s x)) (job_after s n x)) node).1
      (counts_node s graphs graphs_here x hx c n f e) in
      reload_test by_parts n x f l e.fetches counted e.misses

  -- such a reload is one of the ledger
  pub ledger_of : (n : ℕ) → n ≤ horizon → (e : IsCheckedReload by_parts n)
      → Ledger.IsLedgerReload s graphs c n (victim by_parts n) e.fetch
  ledger_of n l e =
      record {
        kept = kept_then s graphs n horizon l kept;
        fetches = e.reload.fetches;
        node = node_of_job (graphs (job_task s (victim by_parts n))) (job_after s n (victim by_parts n));
        at =
            there s set graphs R C run.tasks (victim by_parts n) e.below n
            (kept_at by_parts n (victim by_parts n) l e.below) (is_opened by_parts n (victim by_parts n) e.is_candidate);
        counted = ((met (victim by_parts n) e.below).hits
            (node_of_job (graphs (job_task s (victim by_parts n)))
            (job_after s n (victim by_parts n)))
            (there s set graphs R C run.tasks (victim by_parts n) e.below n
            (kept_at by_parts n (victim by_parts n) l e.below)
            (is_opened by_parts n (victim by_parts n) e.is_candidate)).below).0 e.counted;
        misses = e.reload.misses;
      }
