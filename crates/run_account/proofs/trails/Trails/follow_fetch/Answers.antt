use Rattle.std.proofs.Common.{◌≡◌, ◌<◌, length, get_or, sym, ◌∙◌, ap, subst, arith}
use Rattle.std.proofs.lemmas.List.{get_or_default}
use Rattle.preempt_machine.specs.Machine.{no_job}
use Rattle.preempt_machine.specs.Schedule.{script_line}
use Rattle.flat_graph.specs.CodeGraph.{CodeGraph, no_graph, graph_at}
use Rattle.run_account.specs.declared.run.Hits.{Hits}
use Rattle.run_account.specs.Inner.Notes.{HasMovedToNode}
use Rattle.run_account.specs.Inner.Runs.{run_start, flags_of}
use Rattle.run_account.specs.Nodes.{job_task}
use Rattle.run_account.proofs.AllHits.{flags_at}
use Rattle.run_account.proofs.Fetched.{below, is_task}
use Rattle.run_account.proofs.trails.Trails.follow_fetch.Goals as goal
use Rattle.run_account.proofs.trails.Trails.follow_fetch.Goals.{After-from-task}
use Rattle.run_account.proofs.trails.Trails.follow_fetch.Goals.{After-index-run-task-2}

pub index-line-requires : goal.index-line-requires
index-line-requires c =
    below c.args.run.now c.args.seen.now c.requires.ready c.requires.fetched

task : (c : After-from-task)
    → (c.from-task.result ≡ job_task (run_start c.args.run.now) c.args.seen.now.place)
    × (c.from-task.result < length c.args.run.now.graphs.now)
    × (c.from-task.result < length c.args.run.now.hits.now)
task c =
    let r = c.args.run.now in
    let jobs = r.script.now.jobs in
    let place = c.args.seen.now.place in
    let inside = below r c.args.seen.now c.requires.ready c.requires.fetched in
    let line : c.index-line.result.now ≡ script_line jobs place =
    c.index-line.ensures
    ∙ get_or_default jobs place c.index-line.result.now no_job.line inside in
    is_task r c.args.seen.now c.requires.ready c.requires.fetched c.index-line.result.now
    c.from-task.result line c.from-task.ensures

graph_is : (c : After-index-run-task-2)
    → get_or c.args.run.now.graphs.now c.from-task.result c.index-run-task-2.result
    ≡ graph_at c.args.run.now.graphs.now
    (job_task (run_start c.args.run.now) c.args.seen.now.place)
graph_is c =
    let r = c.args.run.now in
    let jobs = r.script.now.jobs in
    let place = c.args.seen.now.place in
    let inside = below r c.args.seen.now c.requires.ready c.requires.fetched in
    let line : c.index-line.result.now ≡ script_line jobs place =
    c.index-line.ensures
    ∙ get_or_default jobs place c.index-line.result.now no_job.line inside in
    let k = is_task r c.args.seen.now c.requires.ready c.requires.fetched c.index-line.result.now
    c.from-task.result line c.from-task.ensures in
    get_or_default c.args.run.now.graphs.now c.from-task.result c.index-run-task-2.result no_graph
    k.1 ∙ ap (graph_at c.args.run.now.graphs.now) k.0

hits_are : (c : After-index-run-task-2) → c.as_slice-hits.result.now
    ≡ flags_of c.args.run.now.hits.now
    (job_task (run_start c.args.run.now) c.args.seen.now.place)
hits_are c =
    let r = c.args.run.now in
    let jobs = r.script.now.jobs in
    let place = c.args.seen.now.place in
    let inside = below r c.args.seen.now c.requires.ready c.requires.fetched in
    let line : c.index-line.result.now ≡ script_line jobs place =
    c.index-line.ensures
    ∙ get_or_default jobs place c.index-line.result.now no_job.line inside in
    let k = is_task r c.args.seen.now c.requires.ready c.requires.fetched c.index-line.result.now
    c.from-task.result line c.from-task.ensures in
    c.as_slice-hits.ensures.value ∙ ap (λ (h : Hits). h.flags.items) (sym c.index-run-task.is)
    ∙ sym (flags_at c.args.run.now.hits.now c.from-task.result c.index-run-task.result k.2
    c.index-run-task.is) ∙ ap (flags_of c.args.run.now.hits.now) k.0

pub bounds-run-task : goal.bounds-run-task
bounds-run-task c = (task (goal.at.bounds-run-task c).After-from-task).2

pub bounds-run-task-2 : goal.bounds-run-task-2
bounds-run-task-2 c = (task (goal.at.bounds-run-task-2 c).After-from-task).1

pub follow-requires-clause-place : goal.follow-requires-clause-place
follow-requires-clause-place c =
    omega (
      arith,
      below c.args.run.now c.args.seen.now c.requires.ready c.requires.fetched,
      c.requires.noted.all_nodes,
    )

pub follow-requires-clause-node : goal.follow-requires-clause-node
follow-requires-clause-node c u e =
    subst (λ (g : CodeGraph). u < length g.nodes)
    (sym (graph_is (goal.at.follow-requires-clause-node c).After-index-run-task-2))
    (c.requires.noted.in_graph c.args.seen.now.place u
    (below c.args.run.now c.args.seen.now c.requires.ready c.requires.fetched) e)

pub follow-requires-clause-hits : goal.follow-requires-clause-hits
follow-requires-clause-hits c =
    let at = goal.at.follow-requires-clause-hits c in
    let k = task at.After-from-task in
    ap length (hits_are at.After-index-run-task-2)
    ∙ c.requires.ready.hits.nodes (job_task (run_start c.args.run.now) c.args.seen.now.place)
    (omega (arith, k.0, k.1))
    ∙ ap (λ (g : CodeGraph). length g.nodes) (sym (graph_is at.After-index-run-task-2))

pub returns-clause-followed : goal.returns-clause-followed
returns-clause-followed c =
    let at = (goal.at.returns-clause-followed c).After-index-run-task-2 in
    let new = c.follow.new.self.nodes.items in
    let place = c.args.seen.now.place in
    subst (λ (g : CodeGraph).
    HasMovedToNode g (flags_of c.args.run.now.hits.now (job_task (run_start c.args.run.now)
    place)) place c.args.seen.now.address c.args.self.now.nodes.items new
    c.follow.result) (graph_is at)
    (subst (λ fs.
    HasMovedToNode (get_or c.args.run.now.graphs.now c.from-task.result c.index-run-task-2.result)
    fs place c.args.seen.now.address c.args.self.now.nodes.items new c.follow.result)
    (hits_are at) c.follow.ensures.followed)
