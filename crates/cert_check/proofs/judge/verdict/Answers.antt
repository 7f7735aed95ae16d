use Rattle.std.proofs.Common.{subst, arith}
use Rattle.cert_check.specs.Verdict.{ClauseHolds}
use Rattle.cert_check.specs.Inner.FirstFailing.{IsRangeJudged}
use Rattle.loop_regions.specs.TaskGraphs.{task_graph_at}
use Rattle.cert_check.proofs.Judgements.{holds_more, judged_no}
use Rattle.cert_check.proofs.judge.verdict.Goals as goal

pub returns-in-Err : goal.returns-in-Err
returns-in-Err c =
    judged_no c.args.set.now (task_graph_at c.args.graphs.now c.args.nests.now)
    c.args.certificate.now c.loop-i.i c.in-Err.clause c.number.result c.place.result
    c.number.ensures c.place.ensures
    (omega (arith, c.loop-i-test.true, c.len-i-end.ensures)) c.loop-i.invariant c.in-Err.ensures

pub loop-i-preserved : goal.loop-i-preserved
loop-i-preserved c =
    holds_more c.args.set.now (task_graph_at c.args.graphs.now c.args.nests.now)
    c.args.certificate.now c.loop-i.i
    (subst (λ r. IsRangeJudged
    (ClauseHolds c.args.set.now (task_graph_at c.args.graphs.now c.args.nests.now)
    c.args.certificate.now c.loop-i.i) 1 9 r) c.in_default.is c.task_failure.ensures)
    c.loop-i.invariant

pub returns : goal.returns
returns c = λ i k lt. c.loop-i.invariant i k (omega (arith, lt))
