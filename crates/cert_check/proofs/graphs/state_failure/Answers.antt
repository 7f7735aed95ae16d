use Rattle.loop_regions.specs.TaskGraphs.{task_graph}
use Rattle.cert_check.proofs.GraphClauses.{states_fail, useful_fail, sets_fail, sets_hold}
use Rattle.cert_check.proofs.graphs.state_failure.Goals as goal

pub returns-in-Some : goal.returns-in-Some
returns-in-Some c nest =
    states_fail c.args.listing.now.platform.now (task_graph c.args.listing.now.graph.now nest)
    c.args.listing.now.part.now c.in-Some.node c.in-Some.ensures

pub returns-in-Some-judge_useful : goal.returns-in-Some-judge_useful
returns-in-Some-judge_useful c nest =
    useful_fail c.args.listing.now.platform.now (task_graph c.args.listing.now.graph.now nest)
    c.args.listing.now.part.now c.in_default.ensures c.in-Some-judge_useful.node
    c.in-Some-judge_useful.ensures

pub returns-in-Some-judge_sets : goal.returns-in-Some-judge_sets
returns-in-Some-judge_sets c nest =
    sets_fail c.args.listing.now.platform.now (task_graph c.args.listing.now.graph.now nest)
    c.args.listing.now.part.now c.in_default.ensures c.in_default-judge_useful.ensures
    c.in-Some-judge_sets.node
    c.in-Some-judge_sets.ensures

pub returns : goal.returns
returns c nest =
    sets_hold c.args.listing.now.platform.now (task_graph c.args.listing.now.graph.now nest)
    c.args.listing.now.part.now c.in_default.ensures c.in_default-judge_useful.ensures
    c.in_default-judge_sets.ensures
