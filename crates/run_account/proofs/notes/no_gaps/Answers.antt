use Rattle.std.proofs.Common.{◌≡◌, ℕ, [], ◌∷◌, length, sym, ap, subst, arith, length-append}
use Rattle.run_account.specs.declared.trails.Gaps.{Gaps}
use Rattle.run_account.specs.Inner.Searches.{gaps_of}
use Rattle.run_account.proofs.GapLists.{no_gaps_more}
use Rattle.run_account.proofs.notes.no_gaps.Goals as goal

pub loop-job-preserved : goal.loop-job-preserved
loop-job-preserved c =
    let g : Gaps = record { list = c.new.result } in
    let all = c.loop-job.all.items in
    record {
      long = omega (
        arith,
        ap length c.in_ok-push.ensures,
        length-append all (g ∷ []),
        c.loop-job.invariant.long,
      );
      none = subst (λ gs. (x : ℕ) → gaps_of gs x ≡ []) (sym c.in_ok-push.ensures)
          (no_gaps_more all g c.new.ensures.items c.loop-job.invariant.none);
    }
