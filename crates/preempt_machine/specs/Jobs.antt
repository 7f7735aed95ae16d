-- What the program stores of a job, and its turns.
use Rattle.std.specs.Prelude.{ℕ}
use Rattle.icache.specs.Cache.{Cache}
use Rattle.rv_core.specs.Memory.{Memory}
use Rattle.preempt_machine.specs.declared.End.{End}
use Rattle.preempt_machine.specs.declared.End.TheVariants as «end»
use Rattle.preempt_machine.specs.Machine.{Standing, Open, Answered, Faulted, Job}
use Rattle.preempt_machine.specs.Step.{Turn}

-- the standing that a completion reports of a released job
abbrev pub end_of_standing : Standing → End
end_of_standing Open = «end».Open
end_of_standing (Answered t) = «end».Answered t
end_of_standing Faulted = «end».Faulted

-- a turn of a job, with the switch cycles left
abbrev pub turn_by : Cache → Memory → ℕ → Job → Turn
turn_by cache memory k job = record { cache = cache; memory = memory; switch_left = k; job = job }
