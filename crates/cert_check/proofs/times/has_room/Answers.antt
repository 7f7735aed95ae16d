use Rattle.std.proofs.Common.{◌≡◌, List, get_or, subst, arith}
use Rattle.crpd_base.specs.declared.data.TaskPart.{TaskPart}
use Rattle.cert_check.proofs.Names.{part_is}
use Rattle.cert_check.proofs.Rooms.{room_test}
use Rattle.cert_check.proofs.times.has_room.Goals as goal

pub returns : goal.returns
returns c =
    room_test c.args.set.now c.times_law.ensures c.args.certificate.now c.args.i c.loop-k.k
    c.requires.task c.loop-k.parts c.loop-k.windows c.args.longest.now c.index-tasks-i.result
    c.demand-demand.result c.from.result c.at_most.result c.loop-k.invariant
    (omega (arith, c.loop-k-test.false))
    (part_is c.args.certificate.now c.args.i c.index-tasks-i.result c.requires.higher.tasks
    (subst (λ (xs : List TaskPart).
    c.index-tasks-i.result ≡ get_or xs c.args.i c.index-tasks-i.result) c.as_slice-tasks.ensures
    c.index-tasks-i.is)) c.demand-demand.ensures c.from.ensures c.if-window-eq0.false
    c.at_most.ensures
