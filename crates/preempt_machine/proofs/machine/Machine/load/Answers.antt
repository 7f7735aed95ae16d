use Rattle.std.proofs.Common.{◌≡◌, sym}
use Rattle.preempt_machine.specs.Starts.{start_memory}
use Rattle.preempt_machine.proofs.machine.Machine.load.Goals as goal

pub returns-clause-started : goal.returns-clause-started
returns-clause-started c =
    let memory : c.in_ok-memory.memory ≡ start_memory c.args.code.now.images =
    c.in_ok-memory.ensures in
    rw (sym c.start_cache-cache.ensures.is, sym memory) c.new.ensures.started
