use Rattle.std.proofs.Common.{◌≡◌, ℕ, ◌+◌, ◌<◌, ◌++◌, ◌∷◌, [], List, length, get_or, take, sym, ◌∙◌}
use Rattle.std.proofs.Common.{ap, arith, map}
use Rattle.std.proofs.lemmas.List.{map_push, take_all, take_more}
use Rattle.std.proofs.lemmas.Option.{slice_get-get_or}
use Rattle.run_account.specs.declared.told.Entry.{Entry}
use Rattle.run_account.specs.declared.trails.Reload.{Reload}
use Rattle.run_account.specs.Inner.Account.{entry_from_completions}
use Rattle.run_account.proofs.run.told.Goals as goal

-- one more reload is reported
told_more : (f : Reload → Entry) (old new : List Entry) (rs : List Reload) (i : ℕ) (d : Reload)
    (e : Entry) → i < length rs → old ≡ map f (take i rs) → e ≡ f (get_or rs i d)
    → new ≡ old ++ e ∷ [] → new ≡ map f (take (i + 1) rs)
told_more f old new rs i d e below so_far is pushed =
    pushed ∙ ap (λ es. es ++ e ∷ []) so_far ∙ ap (λ x. map f (take i rs) ++ x ∷ []) is
    ∙ sym (ap (map f) (take_more rs i d below) ∙ map_push f (take i rs) (get_or rs i d))

pub entry-requires-clause-job : goal.entry-requires-clause-job
entry-requires-clause-job c =
    c.requires.jobs c.loop-reload.reload-index _
    (slice_get-get_or c.args.reloads.now c.loop-reload.reload-index _ c.loop-reload-test.true)

pub entry-requires-clause-evictor : goal.entry-requires-clause-evictor
entry-requires-clause-evictor c =
    c.requires.evictors c.loop-reload.reload-index _
    (slice_get-get_or c.args.reloads.now c.loop-reload.reload-index _ c.loop-reload-test.true)

pub entry-requires-clause-preemptor : goal.entry-requires-clause-preemptor
entry-requires-clause-preemptor c =
    c.requires.preemptors c.loop-reload.reload-index _
    (slice_get-get_or c.args.reloads.now c.loop-reload.reload-index _ c.loop-reload-test.true)

pub loop-reload-preserved : goal.loop-reload-preserved
loop-reload-preserved c =
    told_more (entry_from_completions c.args.completions.now) c.loop-reload.entries.items
    c.push.new.list.items c.args.reloads.now c.loop-reload.reload-index
    (record { job = 0; set = 0; time = 0; evictor = 0; preemptor = 0 }) c.entry.result
    c.loop-reload-test.true c.loop-reload.invariant c.entry.ensures c.in_ok-push.ensures

pub bounds-reloads-reload-index : goal.bounds-reloads-reload-index
bounds-reloads-reload-index c = c.loop-reload-test.true

pub loop-reload-init : goal.loop-reload-init
loop-reload-init c = c.new-entries.ensures.items

pub returns : goal.returns
returns c =
    c.loop-reload.invariant
    ∙ ap (map (entry_from_completions c.args.completions.now))
    (take_all c.loop-reload.reload-index c.args.reloads.now (omega arith))
