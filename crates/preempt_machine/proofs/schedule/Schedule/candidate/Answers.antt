use Rattle.std.proofs.Common.{◌≡◌, true, false, refl, sym, ◌∙◌, ap}
use Rattle.preempt_machine.specs.Inner.Schedule.{machine_by, owner_keeps}
use Rattle.preempt_machine.proofs.Firsts.{first_is}
use Rattle.preempt_machine.proofs.CandidateTurns.{candidate_is, come_head, keeping_head}
use Rattle.preempt_machine.proofs.schedule.Schedule.candidate.Goals as goal

pub owner_keeps-requires : goal.owner_keeps-requires
owner_keeps-requires c o e = (c.requires.owner o e).below

pub returns-then-owner_keeps-clause-is : goal.returns-then-owner_keeps-clause-is
returns-then-owner_keeps-clause-is c sys cache memory same =
    let m = machine_by cache memory c.args.self.now in
    let keeps : owner_keeps sys.platform.switching m.time m.jobs m.owner ≡ true =
    ap (λ w. owner_keeps w m.time m.jobs m.owner) same ∙ sym c.owner_keeps.ensures
    ∙ c.if-owner_keeps.true in
    sym (candidate_is sys m ∙ rw keeps refl)

pub returns-then-owner_keeps-clause-head : goal.returns-then-owner_keeps-clause-head
returns-then-owner_keeps-clause-head c =
    let s = c.args.self.now in
    keeping_head c.args.switching s.steps s.jobs.items s.queue.due.items s.queue.heads.items s.owner
    c.requires.owner (sym c.owner_keeps.ensures ∙ c.if-owner_keeps.true)

pub returns-else-owner_keeps-clause-is : goal.returns-else-owner_keeps-clause-is
returns-else-owner_keeps-clause-is c sys cache memory same =
    let m = machine_by cache memory c.args.self.now in
    let queue = c.args.self.now.queue in
    let keeps : owner_keeps sys.platform.switching m.time m.jobs m.owner ≡ false =
    ap (λ w. owner_keeps w m.time m.jobs m.owner) same ∙ sym c.owner_keeps.ensures
    ∙ c.if-owner_keeps.false in
    sym (candidate_is sys m ∙ rw keeps
    (first_is queue.due.items queue.heads.items m.jobs m.time c.first.result c.requires.due
    c.requires.waiting c.first.ensures))

pub returns-else-owner_keeps-clause-head : goal.returns-else-owner_keeps-clause-head
returns-else-owner_keeps-clause-head c =
    let s = c.args.self.now in
    come_head s.jobs.items s.queue.due.items s.queue.heads.items s.steps c.first.result
    c.requires.due c.requires.waiting c.first.ensures
