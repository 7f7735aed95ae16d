use Rattle.std.proofs.Common.{◌≡◌, refl, ◌∙◌, ap, arith, rules, tests}
use Rattle.icache.specs.Cache.{cache_after_access, block_of}
use Rattle.preempt_machine.specs.Step.{turn_after_cycle}
use Rattle.preempt_machine.proofs.Turns.{on_err_of, newly, newly_left, under_way}
use Rattle.preempt_machine.proofs.jobs.Core.execute.Goals as goal

pub returns-then-left-gt0-clause-ok : goal.returns-then-left-gt0-clause-ok
returns-then-left-gt0-clause-ok c sys k same plan =
    c.in_ok-work.ensures.ok sys c.args.self.now.cache k plan
    ∙ ap (turn_after_cycle sys c.args.now c.args.ins.now)
    (under_way sys c.args.ins.now c.args.self.now.cache c.args.self.now.memory k c.left-left.result
    c.args.job.now c.left-left.ensures c.if-left-gt0.true)

pub returns-in_err-work-2-clause-last : goal.returns-in_err-work-2-clause-last
returns-in_err-work-2-clause-last c =
    on_err_of c.from_residual-in_err-work-2.result _ (λ sys k same.
    let none : c.args.job.now.left ≡ 0 = omega (arith, c.left-left.ensures, c.if-left-gt0.false) in
    rw (newly_left sys c.args.ins.now c.args.self.now.cache c.args.self.now.memory k
    c.cost-cycles.result c.args.job.now none (c.cost-cycles.ensures sys k same))
    c.in_err-work-2.ensures.last)

pub returns-clause-ok : goal.returns-clause-ok
returns-clause-ok c sys k same plan =
    let none : c.args.job.now.left ≡ 0 = omega (arith, c.left-left.ensures, c.if-left-gt0.false) in
    let cache = cache_after_access sys.platform c.args.self.now.cache
    (block_of sys.platform c.args.job.now.pc) in
    let after : c.access.new.self ≡ cache =
    rw (c.access.ensures.after, c.block-block.ensures, c.pc.ensures, same) refl in
    rw after
    (c.in_ok-work-2.ensures.ok sys cache k plan
    ∙ ap (turn_after_cycle sys c.args.now c.args.ins.now)
    (newly sys c.args.ins.now c.args.self.now.cache c.args.self.now.memory k c.cost-cycles.result
    c.args.job.now none (c.cost-cycles.ensures sys k same)))

pub returns-then-left-gt0-clause-found : goal.returns-then-left-gt0-clause-found
returns-then-left-gt0-clause-found c = search (rules, tests)

pub returns-in_err-work-clause-err : goal.returns-in_err-work-clause-err
returns-in_err-work-clause-err c =
    on_err_of c.from_residual.result _ (
      c.in_err-work.ensures.err.0,
      ap (λ m. record c.args.self.now { memory = m }) c.in_err-work.ensures.err.1,
    )

pub returns-in_err-work-clause-store : goal.returns-in_err-work-clause-store
returns-in_err-work-clause-store c = on_err_of c.from_residual.result _ c.in_err-work.ensures.store

pub returns-in_err-work-2-clause-err : goal.returns-in_err-work-2-clause-err
returns-in_err-work-2-clause-err c =
    on_err_of c.from_residual-in_err-work-2.result _ (
      c.in_err-work-2.ensures.err.0,
      ap (λ m. record c.args.self.now { memory = m }) c.in_err-work-2.ensures.err.1,
    )

pub returns-in_err-work-2-clause-store : goal.returns-in_err-work-2-clause-store
returns-in_err-work-2-clause-store c =
    on_err_of c.from_residual-in_err-work-2.result _ c.in_err-work-2.ensures.store

pub returns-clause-found : goal.returns-clause-found
returns-clause-found c =
    let none : c.args.job.now.left ≡ 0 = omega (arith, c.left-left.ensures, c.if-left-gt0.false) in
    rw (none, c.access.ensures.found, c.block-block.ensures, c.pc.ensures) refl
