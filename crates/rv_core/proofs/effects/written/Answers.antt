use Rattle.std.proofs.Common.{◌≡◌, refl}
use Rattle.rv_decode.specs.declared.Ins.{Ins}
use Rattle.rv_decode.specs.declared.Ins.TheVariants.{Lui, Auipc, Jal, Jalr, Lb, Lh, Lw, Lbu, Lhu}
use Rattle.rv_decode.specs.declared.Ins.TheVariants.{Addi, Slti, Sltiu, Xori, Ori, Andi, Slli, Srli}
use Rattle.rv_decode.specs.declared.Ins.TheVariants.{Srai, Add, Sub, Sll, Slt, Sltu, Xor, Srl, Sra}
use Rattle.rv_decode.specs.declared.Ins.TheVariants.{Or, And, Mul, Mulh, Mulhsu, Mulhu, Div, Divu}
use Rattle.rv_decode.specs.declared.Ins.TheVariants.{Rem, Remu}
use Rattle.rv_core.specs.Effect.{written}
use Rattle.rv_core.proofs.effects.written.Goals as goal

pub returns-in_default : goal.returns-in_default
unfolding written
returns-in_default c = by_variant c.args.ins refl
  where
    by_variant : (ins : Ins) → c.args.ins ≡ ins
        → (0, 0) ≡ written ins c.args.pc c.args.regs.now c.args.memory.now
    by_variant (Lui d u) is = absurd (c.in_default.not-Lui d u is)
    by_variant (Auipc d u) is = absurd (c.in_default.not-Auipc d u is)
    by_variant (Jal d imm) is = absurd (c.in_default.not-Jal d imm is)
    by_variant (Jalr d a imm) is = absurd (c.in_default.not-Jalr d a imm is)
    by_variant (Lb d a imm) is = absurd (c.in_default.not-Lb d a imm is)
    by_variant (Lh d a imm) is = absurd (c.in_default.not-Lh d a imm is)
    by_variant (Lw d a imm) is = absurd (c.in_default.not-Lw d a imm is)
    by_variant (Lbu d a imm) is = absurd (c.in_default.not-Lbu d a imm is)
    by_variant (Lhu d a imm) is = absurd (c.in_default.not-Lhu d a imm is)
    by_variant (Addi d a imm) is = absurd (c.in_default.not-Addi d a imm is)
    by_variant (Slti d a imm) is = absurd (c.in_default.not-Slti d a imm is)
    by_variant (Sltiu d a imm) is = absurd (c.in_default.not-Sltiu d a imm is)
    by_variant (Xori d a imm) is = absurd (c.in_default.not-Xori d a imm is)
    by_variant (Ori d a imm) is = absurd (c.in_default.not-Ori d a imm is)
    by_variant (Andi d a imm) is = absurd (c.in_default.not-Andi d a imm is)
    by_variant (Slli d a k) is = absurd (c.in_default.not-Slli d a k is)
    by_variant (Srli d a k) is = absurd (c.in_default.not-Srli d a k is)
    by_variant (Srai d a k) is = absurd (c.in_default.not-Srai d a k is)
    by_variant (Add d a b) is = absurd (c.in_default.not-Add d a b is)
    by_variant (Sub d a b) is = absurd (c.in_default.not-Sub d a b is)
    by_variant (Sll d a b) is = absurd (c.in_default.not-Sll d a b is)
    by_variant (Slt d a b) is = absurd (c.in_default.not-Slt d a b is)
    by_variant (Sltu d a b) is = absurd (c.in_default.not-Sltu d a b is)
    by_variant (Xor d a b) is = absurd (c.in_default.not-Xor d a b is)
    by_variant (Srl d a b) is = absurd (c.in_default.not-Srl d a b is)
    by_variant (Sra d a b) is = absurd (c.in_default.not-Sra d a b is)
    by_variant (Or d a b) is = absurd (c.in_default.not-Or d a b is)
    by_variant (And d a b) is = absurd (c.in_default.not-And d a b is)
    by_variant (Mul d a b) is = absurd (c.in_default.not-Mul d a b is)
    by_variant (Mulh d a b) is = absurd (c.in_default.not-Mulh d a b is)
    by_variant (Mulhsu d a b) is = absurd (c.in_default.not-Mulhsu d a b is)
    by_variant (Mulhu d a b) is = absurd (c.in_default.not-Mulhu d a b is)
    by_variant (Div d a b) is = absurd (c.in_default.not-Div d a b is)
    by_variant (Divu d a b) is = absurd (c.in_default.not-Divu d a b is)
    by_variant (Rem d a b) is = absurd (c.in_default.not-Rem d a b is)
    by_variant (Remu d a b) is = absurd (c.in_default.not-Remu d a b is)
    by_variant _ is = refl
