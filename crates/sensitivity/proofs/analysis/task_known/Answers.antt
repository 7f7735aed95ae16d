use Rattle.sensitivity.proofs.Parts.{has_sets, tells_hits}
use Rattle.sensitivity.proofs.analysis.task_known.Goals as goal

pub returns-clause-sets : goal.returns-clause-sets
returns-clause-sets c nest =
    has_sets c.args.platform.now c.new-geometry.result.platform c.args.graph.now nest 0
    c.evicting-evicting.result c.useful_of_hits-useful.result
    c.new-geometry.ensures c.words_law.ensures c.words_law-2.ensures c.evicting-evicting.ensures
    c.useful_of_hits-useful.ensures

pub returns-clause-hits : goal.returns-clause-hits
returns-clause-hits c nest =
    tells_hits c.args.platform.now c.new-geometry.result.platform c.args.graph.now nest
    c.in_ok-hits.hits.items c.new.result
    c.new-geometry.ensures c.new.ensures c.in_ok-hits.ensures.count c.in_ok-hits.ensures.each
