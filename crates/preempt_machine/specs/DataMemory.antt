-- The data memory along a run.
use Rattle.std.specs.Prelude.{ℕ}
use Rattle.rv_core.specs.Memory.{IsMemory}
use Rattle.preempt_machine.specs.Machine.{System, Machine}
use Rattle.preempt_machine.specs.Step.{Start, step, state}

-- a step keeps the data memory a finite map from addresses below 2^32 to bytes from 1 to 255
abbrev pub StepKeepsMemory : Type 0
StepKeepsMemory = (sys : System) (m : Machine) → IsMemory m.memory → IsMemory (step sys m).memory

-- every state of a run that starts from such a memory has one
abbrev pub RunKeepsMemory : Type 0
RunKeepsMemory = (s : Start) (n : ℕ) → IsMemory s.memory → IsMemory (state s n).memory
