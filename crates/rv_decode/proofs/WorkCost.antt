-- The cost of an instruction without its fetch is the same on platforms with the same costs of
-- loads, products and quotients.
use Rattle.std.proofs.Common.{◌≡◌, refl}
use Rattle.crpd_base.specs.declared.data.Platform.{Platform}
use Rattle.rv_decode.specs.declared.Ins.{Ins}
use Rattle.rv_decode.specs.declared.Ins.TheVariants.{Lb, Lh, Lw, Lbu, Lhu, Sb, Sh, Sw, Mul, Mulh}
use Rattle.rv_decode.specs.declared.Ins.TheVariants.{Mulhsu, Mulhu, Div, Divu, Rem, Remu}
use Rattle.rv_decode.specs.Cost.{work_cost}

pub same_work : (p q : Platform) (ins : Ins) → p.memory ≡ q.memory → p.mul ≡ q.mul → p.div ≡ q.div
    → work_cost p ins ≡ work_cost q ins
unfolding work_cost
same_work p q (Lb _ _ _) memory mul div = memory
same_work p q (Lh _ _ _) memory mul div = memory
same_work p q (Lw _ _ _) memory mul div = memory
same_work p q (Lbu _ _ _) memory mul div = memory
same_work p q (Lhu _ _ _) memory mul div = memory
same_work p q (Sb _ _ _) memory mul div = memory
same_work p q (Sh _ _ _) memory mul div = memory
same_work p q (Sw _ _ _) memory mul div = memory
same_work p q (Mul _ _ _) memory mul div = mul
same_work p q (Mulh _ _ _) memory mul div = mul
same_work p q (Mulhsu _ _ _) memory mul div = mul
same_work p q (Mulhu _ _ _) memory mul div = mul
same_work p q (Div _ _ _) memory mul div = div
same_work p q (Divu _ _ _) memory mul div = div
same_work p q (Rem _ _ _) memory mul div = div
same_work p q (Remu _ _ _) memory mul div = div
same_work p q _ memory mul div = refl
