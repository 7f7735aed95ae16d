-- A word that fits a row decodes to the row's instruction; one that fits none does not decode.
use Rattle.std.proofs.Common.{refl, rules}
use Rattle.rv_decode.specs.Table.{ins_of_word, table}
use Rattle.rv_decode.specs.declared.Ins.TheVariants.{Lui, Auipc, Jal, Jalr, Beq, Bne, Blt, Bge}
use Rattle.rv_decode.specs.declared.Ins.TheVariants.{Bltu, Bgeu, Lb, Lh, Lw, Lbu, Lhu, Sb, Sh, Sw}
use Rattle.rv_decode.specs.declared.Ins.TheVariants.{Addi, Slti, Sltiu, Xori, Ori, Andi, Slli, Srli}
use Rattle.rv_decode.specs.declared.Ins.TheVariants.{Srai, Add, Sub, Sll, Slt, Sltu, Xor, Srl, Sra}
use Rattle.rv_decode.specs.declared.Ins.TheVariants.{Or, And, Mul, Mulh, Mulhsu, Mulhu, Div, Divu}
use Rattle.rv_decode.specs.declared.Ins.TheVariants.{Rem, Remu, Fence, Ecall, Ebreak}
use Rattle.rv_decode.proofs.Rows.{at_opcode, at_funct3, at_funct7, r_row, i_row, s_row, b_row}
use Rattle.rv_decode.proofs.Rows.{u_row, j_row, fence_row, whole_row, not_whole, no_row}
use Rattle.rv_decode.proofs.reading.decode.Goals as goal

pub returns-then-has_opcode : goal.returns-then-has_opcode
unfolding table
returns-then-has_opcode c =
    u_row _ _ Lui (at_opcode _ 0x37 c.if-has_opcode.ensures) c.split-at.ensures

pub returns-then-has_opcode-2 : goal.returns-then-has_opcode-2
unfolding table
returns-then-has_opcode-2 c =
    u_row _ _ Auipc (at_opcode _ 0x17 c.if-has_opcode-2.ensures) c.split-at.ensures

pub returns-then-has_opcode-3 : goal.returns-then-has_opcode-3
unfolding table
returns-then-has_opcode-3 c =
    j_row _ _ Jal (at_opcode _ 0x6F c.if-has_opcode-3.ensures) c.split-at.ensures (search rules)

pub returns-then-has_funct3 : goal.returns-then-has_funct3
unfolding table
returns-then-has_funct3 c =
    i_row _ _ Jalr (at_funct3 _ 0x67 0 c.if-has_funct3.ensures) c.split-at.ensures (search rules)

pub returns-then-has_funct3-2 : goal.returns-then-has_funct3-2
unfolding table
returns-then-has_funct3-2 c =
    b_row _ _ Beq (at_funct3 _ 0x63 0 c.if-has_funct3-2.ensures) c.split-at.ensures (search rules)

pub returns-then-has_funct3-3 : goal.returns-then-has_funct3-3
unfolding table
returns-then-has_funct3-3 c =
    b_row _ _ Bne (at_funct3 _ 0x63 1 c.if-has_funct3-3.ensures) c.split-at.ensures (search rules)

pub returns-then-has_funct3-4 : goal.returns-then-has_funct3-4
unfolding table
returns-then-has_funct3-4 c =
    b_row _ _ Blt (at_funct3 _ 0x63 4 c.if-has_funct3-4.ensures) c.split-at.ensures (search rules)

pub returns-then-has_funct3-5 : goal.returns-then-has_funct3-5
unfolding table
returns-then-has_funct3-5 c =
    b_row _ _ Bge (at_funct3 _ 0x63 5 c.if-has_funct3-5.ensures) c.split-at.ensures (search rules)

pub returns-then-has_funct3-6 : goal.returns-then-has_funct3-6
unfolding table
returns-then-has_funct3-6 c =
    b_row _ _ Bltu (at_funct3 _ 0x63 6 c.if-has_funct3-6.ensures) c.split-at.ensures (search rules)

pub returns-then-has_funct3-7 : goal.returns-then-has_funct3-7
unfolding table
returns-then-has_funct3-7 c =
    b_row _ _ Bgeu (at_funct3 _ 0x63 7 c.if-has_funct3-7.ensures) c.split-at.ensures (search rules)

pub returns-then-has_funct3-8 : goal.returns-then-has_funct3-8
unfolding table
returns-then-has_funct3-8 c =
    i_row _ _ Lb (at_funct3 _ 0x03 0 c.if-has_funct3-8.ensures) c.split-at.ensures (search rules)

pub returns-then-has_funct3-9 : goal.returns-then-has_funct3-9
unfolding table
returns-then-has_funct3-9 c =
    i_row _ _ Lh (at_funct3 _ 0x03 1 c.if-has_funct3-9.ensures) c.split-at.ensures (search rules)

pub returns-then-has_funct3-10 : goal.returns-then-has_funct3-10
unfolding table
returns-then-has_funct3-10 c =
    i_row _ _ Lw (at_funct3 _ 0x03 2 c.if-has_funct3-10.ensures) c.split-at.ensures (search rules)

pub returns-then-has_funct3-11 : goal.returns-then-has_funct3-11
unfolding table
returns-then-has_funct3-11 c =
    i_row _ _ Lbu (at_funct3 _ 0x03 4 c.if-has_funct3-11.ensures) c.split-at.ensures (search rules)

pub returns-then-has_funct3-12 : goal.returns-then-has_funct3-12
unfolding table
returns-then-has_funct3-12 c =
    i_row _ _ Lhu (at_funct3 _ 0x03 5 c.if-has_funct3-12.ensures) c.split-at.ensures (search rules)

pub returns-then-has_funct3-13 : goal.returns-then-has_funct3-13
unfolding table
returns-then-has_funct3-13 c =
    s_row _ _ Sb (at_funct3 _ 0x23 0 c.if-has_funct3-13.ensures) c.split-at.ensures (search rules)

pub returns-then-has_funct3-14 : goal.returns-then-has_funct3-14
unfolding table
returns-then-has_funct3-14 c =
    s_row _ _ Sh (at_funct3 _ 0x23 1 c.if-has_funct3-14.ensures) c.split-at.ensures (search rules)

pub returns-then-has_funct3-15 : goal.returns-then-has_funct3-15
unfolding table
returns-then-has_funct3-15 c =
    s_row _ _ Sw (at_funct3 _ 0x23 2 c.if-has_funct3-15.ensures) c.split-at.ensures (search rules)

pub returns-then-has_funct3-16 : goal.returns-then-has_funct3-16
unfolding table
returns-then-has_funct3-16 c =
    i_row _ _ Addi (at_funct3 _ 0x13 0 c.if-has_funct3-16.ensures) c.split-at.ensures (search rules)

pub returns-then-has_funct3-17 : goal.returns-then-has_funct3-17
unfolding table
returns-then-has_funct3-17 c =
    i_row _ _ Slti (at_funct3 _ 0x13 2 c.if-has_funct3-17.ensures) c.split-at.ensures (search rules)

pub returns-then-has_funct3-18 : goal.returns-then-has_funct3-18
unfolding table
returns-then-has_funct3-18 c =
    i_row _ _ Sltiu (at_funct3 _ 0x13 3 c.if-has_funct3-18.ensures) c.split-at.ensures (search rules)

pub returns-then-has_funct3-19 : goal.returns-then-has_funct3-19
unfolding table
returns-then-has_funct3-19 c =
    i_row _ _ Xori (at_funct3 _ 0x13 4 c.if-has_funct3-19.ensures) c.split-at.ensures (search rules)

pub returns-then-has_funct3-20 : goal.returns-then-has_funct3-20
unfolding table
returns-then-has_funct3-20 c =
    i_row _ _ Ori (at_funct3 _ 0x13 6 c.if-has_funct3-20.ensures) c.split-at.ensures (search rules)

pub returns-then-has_funct3-21 : goal.returns-then-has_funct3-21
unfolding table
returns-then-has_funct3-21 c =
    i_row _ _ Andi (at_funct3 _ 0x13 7 c.if-has_funct3-21.ensures) c.split-at.ensures (search rules)

pub returns-then-has_funct7 : goal.returns-then-has_funct7
unfolding table
returns-then-has_funct7 c =
    r_row _ _ Slli (at_funct7 _ 0x13 1 0 c.if-has_funct7.ensures) c.split-at.ensures

pub returns-then-has_funct7-2 : goal.returns-then-has_funct7-2
unfolding table
returns-then-has_funct7-2 c =
    r_row _ _ Srli (at_funct7 _ 0x13 5 0 c.if-has_funct7-2.ensures) c.split-at.ensures

pub returns-then-has_funct7-3 : goal.returns-then-has_funct7-3
unfolding table
returns-then-has_funct7-3 c =
    r_row _ _ Srai (at_funct7 _ 0x13 5 0x20 c.if-has_funct7-3.ensures) c.split-at.ensures

pub returns-then-has_funct7-4 : goal.returns-then-has_funct7-4
unfolding table
returns-then-has_funct7-4 c =
    r_row _ _ Add (at_funct7 _ 0x33 0 0 c.if-has_funct7-4.ensures) c.split-at.ensures

pub returns-then-has_funct7-5 : goal.returns-then-has_funct7-5
unfolding table
returns-then-has_funct7-5 c =
    r_row _ _ Sub (at_funct7 _ 0x33 0 0x20 c.if-has_funct7-5.ensures) c.split-at.ensures

pub returns-then-has_funct7-6 : goal.returns-then-has_funct7-6
unfolding table
returns-then-has_funct7-6 c =
    r_row _ _ Sll (at_funct7 _ 0x33 1 0 c.if-has_funct7-6.ensures) c.split-at.ensures

pub returns-then-has_funct7-7 : goal.returns-then-has_funct7-7
unfolding table
returns-then-has_funct7-7 c =
    r_row _ _ Slt (at_funct7 _ 0x33 2 0 c.if-has_funct7-7.ensures) c.split-at.ensures

pub returns-then-has_funct7-8 : goal.returns-then-has_funct7-8
unfolding table
returns-then-has_funct7-8 c =
    r_row _ _ Sltu (at_funct7 _ 0x33 3 0 c.if-has_funct7-8.ensures) c.split-at.ensures

pub returns-then-has_funct7-9 : goal.returns-then-has_funct7-9
unfolding table
returns-then-has_funct7-9 c =
    r_row _ _ Xor (at_funct7 _ 0x33 4 0 c.if-has_funct7-9.ensures) c.split-at.ensures

pub returns-then-has_funct7-10 : goal.returns-then-has_funct7-10
unfolding table
returns-then-has_funct7-10 c =
    r_row _ _ Srl (at_funct7 _ 0x33 5 0 c.if-has_funct7-10.ensures) c.split-at.ensures

pub returns-then-has_funct7-11 : goal.returns-then-has_funct7-11
unfolding table
returns-then-has_funct7-11 c =
    r_row _ _ Sra (at_funct7 _ 0x33 5 0x20 c.if-has_funct7-11.ensures) c.split-at.ensures

pub returns-then-has_funct7-12 : goal.returns-then-has_funct7-12
unfolding table
returns-then-has_funct7-12 c =
    r_row _ _ Or (at_funct7 _ 0x33 6 0 c.if-has_funct7-12.ensures) c.split-at.ensures

pub returns-then-has_funct7-13 : goal.returns-then-has_funct7-13
unfolding table
returns-then-has_funct7-13 c =
    r_row _ _ And (at_funct7 _ 0x33 7 0 c.if-has_funct7-13.ensures) c.split-at.ensures

pub returns-then-has_funct7-14 : goal.returns-then-has_funct7-14
unfolding table
returns-then-has_funct7-14 c =
    r_row _ _ Mul (at_funct7 _ 0x33 0 1 c.if-has_funct7-14.ensures) c.split-at.ensures

pub returns-then-has_funct7-15 : goal.returns-then-has_funct7-15
unfolding table
returns-then-has_funct7-15 c =
    r_row _ _ Mulh (at_funct7 _ 0x33 1 1 c.if-has_funct7-15.ensures) c.split-at.ensures

pub returns-then-has_funct7-16 : goal.returns-then-has_funct7-16
unfolding table
returns-then-has_funct7-16 c =
    r_row _ _ Mulhsu (at_funct7 _ 0x33 2 1 c.if-has_funct7-16.ensures) c.split-at.ensures

pub returns-then-has_funct7-17 : goal.returns-then-has_funct7-17
unfolding table
returns-then-has_funct7-17 c =
    r_row _ _ Mulhu (at_funct7 _ 0x33 3 1 c.if-has_funct7-17.ensures) c.split-at.ensures

pub returns-then-has_funct7-18 : goal.returns-then-has_funct7-18
unfolding table
returns-then-has_funct7-18 c =
    r_row _ _ Div (at_funct7 _ 0x33 4 1 c.if-has_funct7-18.ensures) c.split-at.ensures

pub returns-then-has_funct7-19 : goal.returns-then-has_funct7-19
unfolding table
returns-then-has_funct7-19 c =
    r_row _ _ Divu (at_funct7 _ 0x33 5 1 c.if-has_funct7-19.ensures) c.split-at.ensures

pub returns-then-has_funct7-20 : goal.returns-then-has_funct7-20
unfolding table
returns-then-has_funct7-20 c =
    r_row _ _ Rem (at_funct7 _ 0x33 6 1 c.if-has_funct7-20.ensures) c.split-at.ensures

pub returns-then-has_funct7-21 : goal.returns-then-has_funct7-21
unfolding table
returns-then-has_funct7-21 c =
    r_row _ _ Remu (at_funct7 _ 0x33 7 1 c.if-has_funct7-21.ensures) c.split-at.ensures

pub returns-then-has_funct3-22 : goal.returns-then-has_funct3-22
unfolding table
returns-then-has_funct3-22 c =
    fence_row _ _ Fence (at_funct3 _ 0x0F 0 c.if-has_funct3-22.ensures) c.split-at.ensures

pub returns-then-word-eq115 : goal.returns-then-word-eq115
unfolding ins_of_word table
returns-then-word-eq115 c = whole_row Ecall _ 115 refl c.if-word-eq115.true

pub returns-then-word-eq1048691 : goal.returns-then-word-eq1048691
unfolding ins_of_word table
returns-then-word-eq1048691 c = whole_row Ebreak _ 1048691 refl c.if-word-eq1048691.true

pub returns : goal.returns
unfolding table
returns c = record {
  row =
      no_row _
      (c.if-has_opcode.ensures, (c.if-has_opcode-2.ensures, (c.if-has_opcode-3.ensures, (c.if-has_funct3.ensures, (c.if-has_funct3-2.ensures, (c.if-has_funct3-3.ensures, (c.if-has_funct3-4.ensures, (c.if-has_funct3-5.ensures, (c.if-has_funct3-6.ensures, (c.if-has_funct3-7.ensures, (c.if-has_funct3-8.ensures, (c.if-has_funct3-9.ensures, (c.if-has_funct3-10.ensures, (c.if-has_funct3-11.ensures, (c.if-has_funct3-12.ensures, (c.if-has_funct3-13.ensures, (c.if-has_funct3-14.ensures, (c.if-has_funct3-15.ensures, (c.if-has_funct3-16.ensures, (c.if-has_funct3-17.ensures, (c.if-has_funct3-18.ensures, (c.if-has_funct3-19.ensures, (c.if-has_funct3-20.ensures, (c.if-has_funct3-21.ensures, (c.if-has_funct7.ensures, (c.if-has_funct7-2.ensures, (c.if-has_funct7-3.ensures, (c.if-has_funct7-4.ensures, (c.if-has_funct7-5.ensures, (c.if-has_funct7-6.ensures, (c.if-has_funct7-7.ensures, (c.if-has_funct7-8.ensures, (c.if-has_funct7-9.ensures, (c.if-has_funct7-10.ensures, (c.if-has_funct7-11.ensures, (c.if-has_funct7-12.ensures, (c.if-has_funct7-13.ensures, (c.if-has_funct7-14.ensures, (c.if-has_funct7-15.ensures, (c.if-has_funct7-16.ensures, (c.if-has_funct7-17.ensures, (c.if-has_funct7-18.ensures, (c.if-has_funct7-19.ensures, (c.if-has_funct7-20.ensures, (c.if-has_funct7-21.ensures, (c.if-has_funct3-22.ensures, (not_whole _ 115 c.if-word-eq115.false, (not_whole _ 1048691 c.if-word-eq1048691.false, tt))))))))))))))))))))))))))))))))))))))))))))))));
  in_range = tt;
}
