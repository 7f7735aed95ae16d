use Rattle.preempt_machine.proofs.DataMemory.{step_keeps_memory, run_keeps_memory}
use Rattle.preempt_machine.proofs.memory_law.Goals as goal

pub returns-clause-step : goal.returns-clause-step
returns-clause-step c = step_keeps_memory

pub returns-clause-run : goal.returns-clause-run
returns-clause-run c = run_keeps_memory
