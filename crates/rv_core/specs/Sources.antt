-- The effect of an instruction, by its source registers.
use Rattle.std.specs.Prelude.{ℕ, ◌≡◌, List}
use Rattle.rv_decode.specs.declared.Ins.{Ins}
use Rattle.rv_decode.specs.Sources.{sources}
use Rattle.rv_core.specs.Effect.{next_pc, written, memory_after}
use Rattle.rv_core.specs.Memory.{Memory}
use Rattle.rv_core.specs.Registers.{reg}

-- registers that agree on an instruction's sources give the same next address, and the same writes
-- and stores
abbrev pub SourcesTellEffect : Type 0
SourcesTellEffect =
    (ins : Ins) (pc : ℕ) (r s : List ℕ) (m : Memory) → reg r (sources ins).0 ≡ reg s (sources ins).0
    → reg r (sources ins).1 ≡ reg s (sources ins).1
    → (next_pc ins pc r ≡ next_pc ins pc s) × (written ins pc r m ≡ written ins pc s m)
    × (memory_after ins r m ≡ memory_after ins s m)
