use Rattle.std.proofs.Common.{◌∙◌, ap, replicate, None}
use Rattle.run_account.proofs.Accounts.{noted_start}
use Rattle.run_account.proofs.Following.{followed_all}
use Rattle.run_account.proofs.run.Run.follower.Goals as goal

pub returns-clause-nothing : goal.returns-clause-nothing
returns-clause-nothing c =
    let t = c.in_ok-trails.ensures in
    let jobs = c.len.ensures in
    followed_all c.args.self.now 0 c.in_ok-trails.trails c.requires.ready
    (noted_start c.args.self.now c.in_ok-trails.trails
    (t.nodes ∙ ap (λ k. replicate k None) jobs) (t.lasts ∙ ap (λ k. replicate k None) jobs)
    (t.all_gaps ∙ jobs) t.gaps t.sets t.owner t.reloads)
