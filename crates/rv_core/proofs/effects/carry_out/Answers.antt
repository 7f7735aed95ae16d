use Rattle.std.proofs.Common.{ℕ, ◌<◌, sym, subst}
use Rattle.rv_core.proofs.Written.{written_register}
use Rattle.rv_core.proofs.effects.carry_out.Goals as goal

pub put-requires : goal.put-requires
put-requires c =
    subst (λ (p : ℕ × ℕ). p.0 < 32) (sym c.written-register.ensures)
    (written_register c.args.ins.now c.args.pc c.args.regs.now c.args.memory.now c.requires)
