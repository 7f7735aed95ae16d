-- The cost of an instruction.
use Rattle.std.specs.Prelude.{ℕ, ◌+◌, Bool, true, false, ◌&&◌, if◌then◌else◌}
use Rattle.crpd_base.specs.declared.data.Platform.{Platform}
use Rattle.rv_decode.specs.declared.Ins.{Ins}
use Rattle.rv_decode.specs.declared.Ins.TheVariants.{Jal, Jalr, Beq, Bne, Blt, Bge, Bltu, Bgeu, Lb}
use Rattle.rv_decode.specs.declared.Ins.TheVariants.{Lh, Lw, Lbu, Lhu, Sb, Sh, Sw, Mul, Mulh}
use Rattle.rv_decode.specs.declared.Ins.TheVariants.{Mulhsu, Mulhu, Div, Divu, Rem, Remu}

-- the cycles of an instruction without its fetch: `memory` for a load or store, `mul` for products,
-- `div` for quotients and remainders
unfoldable pub work_cost : Platform → Ins → ℕ
work_cost p (Lb _ _ _) = p.memory
work_cost p (Lh _ _ _) = p.memory
work_cost p (Lw _ _ _) = p.memory
work_cost p (Lbu _ _ _) = p.memory
work_cost p (Lhu _ _ _) = p.memory
work_cost p (Sb _ _ _) = p.memory
work_cost p (Sh _ _ _) = p.memory
work_cost p (Sw _ _ _) = p.memory
work_cost p (Mul _ _ _) = p.mul
work_cost p (Mulh _ _ _) = p.mul
work_cost p (Mulhsu _ _ _) = p.mul
work_cost p (Mulhu _ _ _) = p.mul
work_cost p (Div _ _ _) = p.div
work_cost p (Divu _ _ _) = p.div
work_cost p (Rem _ _ _) = p.div
work_cost p (Remu _ _ _) = p.div
work_cost p _ = 0

-- whether it is a branch, JAL or JALR
abbrev pub changes_flow : Ins → Bool
changes_flow (Jal _ _) = true
changes_flow (Jalr _ _ _) = true
changes_flow (Beq _ _ _) = true
changes_flow (Bne _ _ _) = true
changes_flow (Blt _ _ _) = true
changes_flow (Bge _ _ _) = true
changes_flow (Bltu _ _ _) = true
changes_flow (Bgeu _ _ _) = true
changes_flow _ = false

-- the cost, by whether the fetch missed and whether the next address differs from pc + 4
abbrev pub cost : Platform → Ins → Bool → Bool → ℕ
cost p ins missed taken =
    p.hit + (if missed then p.miss else 0) + work_cost p ins
    + (if taken && changes_flow ins then p.taken else 0)
