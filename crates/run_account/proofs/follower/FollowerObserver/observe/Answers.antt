use Rattle.std.proofs.Common.{◌+◌, sym, ◌∙◌}
use Rattle.std.proofs.lemmas.Bool.{false≢true}
use Rattle.std.proofs.lemmas.Result.{on_ok_weaker}
use Rattle.run_account.proofs.Following.{broken_to, followed_all, followed_here, followed_to}
use Rattle.run_account.proofs.follower.FollowerObserver.observe.Goals as goal

pub note-requires-clause-ready : goal.note-requires-clause-ready
note-requires-clause-ready c = c.requires.before.followed.ready

pub note-requires-clause-kept : goal.note-requires-clause-kept
note-requires-clause-kept c = c.requires.is.kept.0 c.if-seen.true

pub note-requires-clause-noted : goal.note-requires-clause-noted
note-requires-clause-noted c =
    (followed_here c.args.self.now.run c.args.seen.time c.args.self.now.trails
    c.requires.before).noted (c.requires.is.kept.0 c.if-seen.true)

pub returns-then-seen-clause-after : goal.returns-then-seen-clause-after
returns-then-seen-clause-after c =
    let r = c.args.self.now.run in
    let n = c.args.seen.time + 1 in
    on_ok_weaker c.note.result
    (λ N. followed_to r n c.note.new.self
    (followed_all r n c.note.new.self c.requires.before.followed.ready N))
    c.note.ensures

pub returns-clause-after : goal.returns-clause-after
returns-clause-after c =
    broken_to c.args.self.now.run c.args.seen.time c.args.self.now.trails
    (λ k. false≢true (sym c.if-seen.false ∙ c.requires.is.kept.1 k)) c.requires.before
