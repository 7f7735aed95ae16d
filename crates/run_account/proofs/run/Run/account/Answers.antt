use Rattle.std.proofs.Common.{◌≡◌, ◌∙◌, sym, subst, ap, slice_get, Some}
use Rattle.run_account.specs.declared.run.Run.{Run}
use Rattle.run_account.specs.Inner.FollowLaws.{IsFollowedTo}
use Rattle.run_account.specs.Inner.Runs.{run_start, run_graphs, run_certificate}
use Rattle.run_account.proofs.Accounts.{account_told, evictor_told, job_told, preemptor_told}
use Rattle.run_account.proofs.Following.{followed_here, followed_to}
use Rattle.run_account.proofs.run.Run.account.Goals as goal

pub run_observed-requires-clause-start : goal.run_observed-requires-clause-start
run_observed-requires-clause-start c = ap run_start c.in_ok-follower.ensures.run

pub run_observed-requires-clause-nothing : goal.run_observed-requires-clause-nothing
run_observed-requires-clause-nothing c =
    let f = c.in_ok-follower.follower in
    subst (λ (r : Run). IsFollowedTo r 0 f.trails) (sym c.in_ok-follower.ensures.run)
    (followed_to c.args.self.now 0 f.trails c.in_ok-follower.ensures.nothing)

pub tell-requires-clause-jobs : goal.tell-requires-clause-jobs
tell-requires-clause-jobs c k r e =
    let self = c.args.self.now in
    let cycles = self.script.now.cycles in
    let new = c.run_observed.new.observer in
    let F = followed_here self cycles new.trails
    (subst (λ (q : Run). IsFollowedTo q cycles new.trails)
    (c.in_ok-completions.ensures.same ∙ c.in_ok-follower.ensures.run)
    c.in_ok-completions.ensures.all) in
    job_told (run_start self) (run_graphs self) (run_certificate self) cycles _ _
    new.trails.reloads.items F.ledger c.in_ok-completions.ensures.outcome k r
    (subst (λ rs. slice_get rs k ≡ Some r) c.as_slice.ensures.value e)

pub tell-requires-clause-evictors : goal.tell-requires-clause-evictors
tell-requires-clause-evictors c k r e =
    let self = c.args.self.now in
    let cycles = self.script.now.cycles in
    let new = c.run_observed.new.observer in
    let F = followed_here self cycles new.trails
    (subst (λ (q : Run). IsFollowedTo q cycles new.trails)
    (c.in_ok-completions.ensures.same ∙ c.in_ok-follower.ensures.run)
    c.in_ok-completions.ensures.all) in
    evictor_told (run_start self) (run_graphs self) (run_certificate self) cycles _ _
    new.trails.reloads.items F.ledger c.in_ok-completions.ensures.outcome k r
    (subst (λ rs. slice_get rs k ≡ Some r) c.as_slice.ensures.value e)

pub tell-requires-clause-preemptors : goal.tell-requires-clause-preemptors
tell-requires-clause-preemptors c k r e =
    let self = c.args.self.now in
    let cycles = self.script.now.cycles in
    let new = c.run_observed.new.observer in
    let F = followed_here self cycles new.trails
    (subst (λ (q : Run). IsFollowedTo q cycles new.trails)
    (c.in_ok-completions.ensures.same ∙ c.in_ok-follower.ensures.run)
    c.in_ok-completions.ensures.all) in
    preemptor_told (run_start self) (run_graphs self) (run_certificate self) cycles _ _
    new.trails.reloads.items F.ledger c.in_ok-completions.ensures.outcome k r
    (subst (λ rs. slice_get rs k ≡ Some r) c.as_slice.ensures.value e)

pub returns : goal.returns
returns c =
    let self = c.args.self.now in
    let cycles = self.script.now.cycles in
    let new = c.run_observed.new.observer in
    let told = c.in_ok-account.ensures in
    let F = followed_here self cycles new.trails
    (subst (λ (q : Run). IsFollowedTo q cycles new.trails)
    (c.in_ok-completions.ensures.same ∙ c.in_ok-follower.ensures.run)
    c.in_ok-completions.ensures.all) in
    account_told (run_start self) (run_graphs self) (run_certificate self) cycles _ _
    new.trails.reloads.items c.in_ok-account.account F.ledger
    c.in_ok-completions.ensures.outcome (rw c.as_slice.ensures.value at told.entries)
    told.completions told.kept
