-- What is recorded of a run up to a step. A step without a fetch adds nothing to it.
use Rattle.std.proofs.Common.{◌≡◌, ℕ, suc, ◌<◌, ◌≤◌, None, sym, subst, inl, inr, arith}
use Rattle.std.proofs.lemmas.Bool.{cases_eq}
use Rattle.preempt_machine.specs.Step.{fetch_at}
use Rattle.run_account.specs.declared.run.Run.{Run}
use Rattle.run_account.specs.declared.trails.Trails.{Trails}
use Rattle.run_account.specs.Inner.Runs.{run_start, IsFollowed}

-- the run is followed up to a step, and from there to step n it makes no fetch
pub record IsFollowedTo (r : Run) (n : ℕ) (t : Trails) : Type 0 where
  pub at : ℕ
  pub within : at ≤ n
  pub none : (k : ℕ) → at ≤ k → k < n → fetch_at (run_start r) k ≡ None
  pub followed : IsFollowed r at t

-- a step without a fetch
pub followed_on : (r : Run) (n : ℕ) (t : Trails) → fetch_at (run_start r) n ≡ None
    → IsFollowedTo r n t → IsFollowedTo r (suc n) t
followed_on r n t none h =
    let a = h.within in
    record {
      at = h.at;
      within = omega (arith, a);
      none = λ k b l. elim (cases_eq k n) [
        | inl e ↦ subst (λ m. fetch_at (run_start r) m ≡ None) (sym e) none
        | inr ne ↦ h.none k b (omega arith)
      ];
      followed = h.followed;
    }
