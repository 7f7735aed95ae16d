use Rattle.std.proofs.Common.{◌≡◌, ◌+◌, suc, refl, sym, ◌∙◌, ap, subst, arith}
use Rattle.crpd_base.specs.declared.data.Platform.{Platform}
use Rattle.icache.specs.Cache.{cache_after_access, block_of}
use Rattle.preempt_machine.specs.Jobs.{turn_by}
use Rattle.preempt_machine.proofs.Turns.{newly}
use Rattle.preempt_machine.proofs.TurnLaws.{fetched_none}
use Rattle.preempt_machine.proofs.Observing.{left_fetch, observation}
use Rattle.preempt_machine.proofs.moves.FastCore.begin.Goals as goal

pub returns-clause-fetched : goal.returns-clause-fetched
returns-clause-fetched g c sys k ins same found =
    let job = c.args.job.now in
    let old = c.args.self.now in
    let none : job.left ≡ 0 = omega (arith, c.left.ensures, c.if-left-gt0.false) in
    let cache : c.fetch.new.self.cache
    ≡ cache_after_access sys.platform old.cache (block_of sys.platform job.pc) =
    c.fetch.ensures.cache
    ∙ ap (λ (p : Platform). cache_after_access p old.cache (block_of p job.pc)) (sym same) in
    rw (cache, c.fetch.ensures.memory, c.set_left.ensures)
    (newly sys ins old.cache old.memory k c.in_ok-cycles.cycles job none
    (c.in_ok-cycles.ensures.cost sys k ins same found))

pub returns-then-left-gt0-clause-fetched : goal.returns-then-left-gt0-clause-fetched
returns-then-left-gt0-clause-fetched g c sys k ins same found =
    sym (fetched_none sys ins (turn_by c.args.self.now.cache c.args.self.now.memory k
    c.args.job.now) (λ z. omega (arith, c.left.ensures, c.if-left-gt0.true, z)))

pub returns-then-left-gt0-clause-after : goal.returns-then-left-gt0-clause-after
returns-then-left-gt0-clause-after g c =
    let o = c.args.observer.now in
    let s = g.O.Observer.start (g.O.Observer.observed o) in
    let t = turn_by c.args.self.now.cache c.args.self.now.memory 0 c.args.job.now in
    let e : suc c.args.now ≡ c.args.now + 1 = omega arith in
    subst (λ n. g.O.Observer.has_observed o n) e
    (g.met.O.Observer.passes o c.args.now
    (c.requires.turn.fetch
    ∙ left_fetch s.system c.args.place t (omega (arith, c.left.ensures, c.if-left-gt0.true)))
    c.requires.before)

pub fetch-requires-clause-is : goal.fetch-requires-clause-is
fetch-requires-clause-is g c =
    let s = g.O.Observer.start (g.O.Observer.observed c.args.observer.now) in
    let self = c.args.self.now in
    let t = turn_by self.cache self.memory 0 c.args.job.now in
    let found = c.args.execution.found.now in
    let none : c.args.job.now.left ≡ 0 = omega (arith, c.left.ensures, c.if-left-gt0.false) in
    observation s c.args.place c.args.now t self.kept self.geometry.platform
    found.address found.block found.set c.requires.turn refl none
    c.requires.instruction c.requires.flagged c.requires.platform c.requires.address
    c.requires.block c.requires.set
