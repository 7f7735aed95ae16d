-- The word of each form is the one that decodes to the instruction.
use Rattle.std.proofs.Common.{ap, ◌∙◌, rules, lit≤}
use Rattle.rv_decode.specs.Encoding.{i_word}
use Rattle.rv_decode.specs.declared.operands.Operands.TheVariants as form
use Rattle.rv_decode.proofs.Encodings.{is_word_of}
use Rattle.rv_decode.proofs.Forms.{imm_again, operation_fits, operands_fit, word_arm}
use Rattle.rv_decode.proofs.writing.encode.Goals as goal

pub r_word-requires : goal.r_word-requires
r_word-requires c =
    let p = operation_fits _ _ c.operation-opcode.ensures in
    let h = operands_fit _ _ c.in-R.ensures c.requires in record {
      opcode = p.opcode;
      funct3 = p.funct3;
      funct7 = p.funct7;
      rd = h.0;
      rs1 = h.1;
      rs2 = h.2;
    }

pub r_word-requires-in-Shift : goal.r_word-requires-in-Shift
r_word-requires-in-Shift c =
    let p = operation_fits _ _ c.operation-opcode.ensures in
    let h = operands_fit _ _ c.in-Shift.ensures c.requires in record {
      opcode = p.opcode;
      funct3 = p.funct3;
      funct7 = p.funct7;
      rd = h.0;
      rs1 = h.1;
      rs2 = h.2;
    }

pub bits_of-requires : goal.bits_of-requires
bits_of-requires c =
    let h = operands_fit _ _ (imm_again (form.I c.in-I.rd c.in-I.rs1) c.in-I.imm _ (search rules) c.in-I.ensures) c.requires in record {
      some = lit≤ tt;
      few = lit≤ tt;
      within = h.2;
    }

pub i_word-requires : goal.i_word-requires
i_word-requires c =
    let p = operation_fits _ _ c.operation-opcode.ensures in
    let h = operands_fit _ _ (imm_again (form.I c.in-I.rd c.in-I.rs1) c.in-I.imm _ (search rules) c.in-I.ensures) c.requires in record {
      opcode = p.opcode;
      funct3 = p.funct3;
      rd = h.0;
      rs1 = h.1;
      high = c.bits_of.ensures.below;
    }

pub bits_of-requires-in-Address : goal.bits_of-requires-in-Address
bits_of-requires-in-Address c =
    let h = operands_fit _ _ (imm_again (form.Address c.in-Address.rd c.in-Address.rs1) c.in-Address.imm _ (search rules) c.in-Address.ensures) c.requires in record {
      some = lit≤ tt;
      few = lit≤ tt;
      within = h.2;
    }

pub i_word-requires-in-Address : goal.i_word-requires-in-Address
i_word-requires-in-Address c =
    let p = operation_fits _ _ c.operation-opcode.ensures in
    let h = operands_fit _ _ (imm_again (form.Address c.in-Address.rd c.in-Address.rs1) c.in-Address.imm _ (search rules) c.in-Address.ensures) c.requires in record {
      opcode = p.opcode;
      funct3 = p.funct3;
      rd = h.0;
      rs1 = h.1;
      high = c.bits_of-in-Address.ensures.below;
    }

pub s_word-requires : goal.s_word-requires
s_word-requires c =
    let p = operation_fits _ _ c.operation-opcode.ensures in
    let h = operands_fit _ _ (imm_again (form.S c.in-S.rs1 c.in-S.rs2) c.in-S.imm _ (search rules) c.in-S.ensures) c.requires in record {
      opcode = p.opcode;
      funct3 = p.funct3;
      rs1 = h.0;
      rs2 = h.1;
      imm = h.2;
    }

pub b_word-requires : goal.b_word-requires
b_word-requires c =
    let p = operation_fits _ _ c.operation-opcode.ensures in
    let h = operands_fit _ _ (imm_again (form.B c.in-B.rs1 c.in-B.rs2) c.in-B.imm _ (search rules) c.in-B.ensures) c.requires in record {
      opcode = p.opcode;
      funct3 = p.funct3;
      rs1 = h.0;
      rs2 = h.1;
      imm = h.2;
    }

pub u_word-requires : goal.u_word-requires
u_word-requires c =
    let p = operation_fits _ _ c.operation-opcode.ensures in
    let h = operands_fit _ _ c.in-U.ensures c.requires in record {
      opcode = p.opcode;
      rd = h.0;
      upper = h.1;
    }

pub j_word-requires : goal.j_word-requires
j_word-requires c =
    let p = operation_fits _ _ c.operation-opcode.ensures in
    let h = operands_fit _ _ (imm_again (form.J c.in-J.rd) c.in-J.imm _ (search rules) c.in-J.ensures) c.requires in record {
      opcode = p.opcode;
      rd = h.0;
      imm = h.1;
    }

pub i_word-requires-in-Plain : goal.i_word-requires-in-Plain
i_word-requires-in-Plain c =
    let p = operation_fits _ _ c.operation-opcode.ensures in
    let h = operands_fit _ _ c.in-Plain.ensures c.requires in record {
      opcode = p.opcode;
      funct3 = p.funct3;
      rd = h.0;
      rs1 = h.1;
      high = h.2;
    }

pub returns-in-R : goal.returns-in-R
returns-in-R c =
    let e = word_arm _ _ _ _ c.operation-opcode.ensures c.in-R.ensures c.r_word.ensures in
    record { value = e; is_word = is_word_of _ _ c.requires e }

pub returns-in-Shift : goal.returns-in-Shift
returns-in-Shift c =
    let e = word_arm _ _ _ _ c.operation-opcode.ensures c.in-Shift.ensures c.r_word-in-Shift.ensures in
    record { value = e; is_word = is_word_of _ _ c.requires e }

pub returns-in-I : goal.returns-in-I
returns-in-I c =
    let e = word_arm _ _ _ _ c.operation-opcode.ensures (imm_again (form.I c.in-I.rd c.in-I.rs1) c.in-I.imm _ (search rules) c.in-I.ensures) (c.i_word.ensures ∙ ap (i_word _ _ _ _) c.bits_of.ensures.value) in
    record { value = e; is_word = is_word_of _ _ c.requires e }

pub returns-in-Address : goal.returns-in-Address
returns-in-Address c =
    let e = word_arm _ _ _ _ c.operation-opcode.ensures (imm_again (form.Address c.in-Address.rd c.in-Address.rs1) c.in-Address.imm _ (search rules) c.in-Address.ensures) (c.i_word-in-Address.ensures ∙ ap (i_word _ _ _ _) c.bits_of-in-Address.ensures.value) in
    record { value = e; is_word = is_word_of _ _ c.requires e }

pub returns-in-S : goal.returns-in-S
returns-in-S c =
    let e = word_arm _ _ _ _ c.operation-opcode.ensures (imm_again (form.S c.in-S.rs1 c.in-S.rs2) c.in-S.imm _ (search rules) c.in-S.ensures) c.s_word.ensures in
    record { value = e; is_word = is_word_of _ _ c.requires e }

pub returns-in-B : goal.returns-in-B
returns-in-B c =
    let e = word_arm _ _ _ _ c.operation-opcode.ensures (imm_again (form.B c.in-B.rs1 c.in-B.rs2) c.in-B.imm _ (search rules) c.in-B.ensures) c.b_word.ensures in
    record { value = e; is_word = is_word_of _ _ c.requires e }

pub returns-in-U : goal.returns-in-U
returns-in-U c =
    let e = word_arm _ _ _ _ c.operation-opcode.ensures c.in-U.ensures c.u_word.ensures in
    record { value = e; is_word = is_word_of _ _ c.requires e }

pub returns-in-J : goal.returns-in-J
returns-in-J c =
    let e = word_arm _ _ _ _ c.operation-opcode.ensures (imm_again (form.J c.in-J.rd) c.in-J.imm _ (search rules) c.in-J.ensures) c.j_word.ensures in
    record { value = e; is_word = is_word_of _ _ c.requires e }

pub returns-in-Plain : goal.returns-in-Plain
returns-in-Plain c =
    let e = word_arm _ _ _ _ c.operation-opcode.ensures c.in-Plain.ensures c.i_word-in-Plain.ensures in
    record { value = e; is_word = is_word_of _ _ c.requires e }
