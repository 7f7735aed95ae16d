use Rattle.std.proofs.Common.{◌≡◌, ◌<◌, ◌++◌, ◌∷◌, ℕ, [], Some, None, length, sym, ◌∙◌, ap, subst}
use Rattle.std.proofs.lemmas.List.{get_or_read}
use Rattle.crpd_base.proofs.Options.{some_injective}
use Rattle.run_account.specs.declared.trails.Gap.{Gap}
use Rattle.run_account.specs.declared.trails.Reload.{Reload}
use Rattle.run_account.specs.declared.trails.Touch.{Touch}
use Rattle.run_account.specs.Inner.Searches.{gap_at, gaps_of, optional_at, IsFirstAfter}
use Rattle.run_account.proofs.GapLists.{gaps_at}
use Rattle.run_account.proofs.trails.Trails.enter.Goals as goal
use Rattle.run_account.proofs.trails.Trails.enter.Goals.{After-as_slice}

gaps_are : (c : After-as_slice)
    → c.as_slice.result.now ≡ gaps_of c.args.self.now.gaps.items c.args.place
gaps_are c =
    c.as_slice.ensures.value
    ∙ sym (gaps_at c.args.self.now.gaps.items c.args.place c.index-2.result.now c.requires.place
    c.index-2.ensures)

last_is : (c : After-as_slice)
    → optional_at c.args.self.now.sets.items c.args.set ≡ Some c.in-Some.touch
last_is c =
    sym (get_or_read c.args.self.now.sets.items c.args.set c.index.result.now c.requires.set
    c.index.ensures None) ∙ c.in-Some.is

pub gap_after-gap-requires-clause-ordered : goal.gap_after-gap-requires-clause-ordered
gap_after-gap-requires-clause-ordered c =
    subst (λ gs. (j k : ℕ) → j < k → k < length gs → (gap_at gs j).until < (gap_at gs k).until)
    (sym (gaps_are (goal.at.gap_after-gap-requires-clause-ordered c).After-as_slice))
    c.requires.ordered

pub gap_after-gap-requires-clause-some : goal.gap_after-gap-requires-clause-some
gap_after-gap-requires-clause-some c =
    let at = (goal.at.gap_after-gap-requires-clause-some c).After-as_slice in
    let w = c.requires.some in
    subst (λ gs. (k : ℕ) × (k < length gs) × (c.in-Some.touch.time < (gap_at gs k).until))
    (sym (gaps_are at))
    (subst (λ (t : Touch). (k : ℕ)
    × (k < length (gaps_of c.args.self.now.gaps.items c.args.place))
    × (t.time < (gap_at (gaps_of c.args.self.now.gaps.items c.args.place) k).until))
    (some_injective (sym w.1 ∙ last_is at)) w.2)

pub returns-clause-entered : goal.returns-clause-entered
returns-clause-entered c =
    let old = c.args.self.now in
    let x = c.args.place in
    let at = (goal.at.returns-clause-entered c).After-as_slice in
    let gaps = gaps_are at in
    let found = c.gap_after-gap.ensures in
    record {
      last = c.in-Some.touch;
      is_last = last_is at;
      gap = found.0;
      first = subst (λ gs. IsFirstAfter gs c.in-Some.touch.time found.0) gaps found.1;
      entered = c.in_ok-push.ensures
          ∙ ap (λ (r : Reload). old.reloads.items ++ r ∷ []) c.reload.ensures
          ∙ ap (λ (g : Gap). old.reloads.items ++ record {
            job = x;
            set = c.args.set;
            time = c.args.now;
            evictor = c.in-Some.touch.job;
            preemptor = g.latest;
          } ∷ []) (found.2 ∙ ap (λ gs. gap_at gs found.0) gaps);
    }
