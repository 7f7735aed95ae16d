-- Recording a run, step by step.
use Rattle.std.proofs.Common.{◌≡◌, ℕ, suc, ◌+◌, ◌≤◌, None, sym, ◌∙◌, subst, arith, map}
use Rattle.crpd_base.proofs.Options.{none_some}
use Rattle.preempt_machine.specs.Safe.{IsKept}
use Rattle.preempt_machine.specs.Step.{state, fetch_at}
use Rattle.preempt_machine.proofs.Runs.{along}
use Rattle.run_account.specs.declared.run.Run.{Run}
use Rattle.run_account.specs.declared.trails.Trails.{Trails}
use Rattle.run_account.specs.Inner.FollowLaws.{IsFollowedTo}
use Rattle.run_account.specs.Inner.Runs.{run_start, run_graphs, run_certificate, HasAccountInput}
use Rattle.run_account.specs.Inner.Runs.{IsFollowed}
use Rattle.run_account.specs.Inner.Trails.{ledger_reload_of, AreTrailsOf}
use Rattle.run_account.proofs.Fetched.{noted_on}
use Rattle.run_account.proofs.JobWalks.{kept_one}
use Rattle.run_account.proofs.Ledgers.{ledger_same}

-- a step without a fetch
followed_step : (r : Run) (n : ℕ) (t : Trails) → fetch_at (run_start r) n ≡ None
    → IsFollowed r n t → IsFollowed r (suc n) t
followed_step r n t none h =
    let s = run_start r in
    record {
      ready = h.ready;
      noted = λ k. noted_on r n t none (h.noted (kept_one s (run_graphs r) n k));
      ledger =
          ledger_same s (run_graphs r) (run_certificate r) n (map ledger_reload_of t.reloads.items)
          (λ x f E. none_some (sym none ∙ E.fetches.is)) h.ledger;
    }

-- and all of them up to a step
pub followed_here : (r : Run) (n : ℕ) (t : Trails) → IsFollowedTo r n t → IsFollowed r n t
followed_here r n t h =
    along (λ k. k ≤ n → IsFollowed r k t) h.at (λ l. h.followed)
    (λ k a before l. followed_step r k t (h.none k a (omega arith)) (before (omega arith))) n
    h.within (omega arith)

pub followed_to : (r : Run) (n : ℕ) (t : Trails) → IsFollowed r n t → IsFollowedTo r n t
followed_to r n t h = record {
  at = n;
  within = omega arith;
  none = λ k a l. absurd (omega arith);
  followed = h;
}

-- a step with a fetch, before which a watch is broken
followed_broken : (r : Run) (n : ℕ) (t : Trails) → (IsKept (state (run_start r) n) → ⊥)
    → IsFollowed r n t → IsFollowed r (n + 1) t
followed_broken r n t broken h =
    let s = run_start r in
    let e : suc n ≡ n + 1 = omega arith in
    subst (λ k. IsFollowed r k t) e
    (record {
      ready = h.ready;
      noted = λ k. absurd (broken (kept_one s (run_graphs r) n k));
      ledger =
          ledger_same s (run_graphs r) (run_certificate r) n (map ledger_reload_of t.reloads.items)
          (λ x f E. broken E.kept) h.ledger;
    })

pub broken_to : (r : Run) (n : ℕ) (t : Trails) → (IsKept (state (run_start r) n) → ⊥)
    → IsFollowedTo r n t → IsFollowedTo r (n + 1) t
broken_to r n t broken h =
    followed_to r (n + 1) t (followed_broken r n t broken (followed_here r n t h))

-- what is recorded of all steps
pub followed_all : (r : Run) (n : ℕ) (t : Trails) → HasAccountInput r
    → AreTrailsOf (run_start r) (run_graphs r) (run_certificate r) n t → IsFollowed r n t
followed_all r n t R N = record { ready = R; noted = λ k. N; ledger = N.ledger }
