-- Effects on the manual's special cases of division, and on the end of memory, by computation.
use Rattle.std.proofs.Common.{◌≡◌, refl, negsuc, ℕ, List, [], ◌∷◌, ◌-◌, ◌^◌}
use Rattle.rv_core.specs.Effect.{written, next_pc, memory_after}
use Rattle.rv_core.specs.declared.Next.TheVariants.{Goto}
use Rattle.rv_decode.specs.declared.Ins.TheVariants.{Div, Rem, Mul, Mulh, Mulhsu, Mulhu, Bne, Sw}
use Rattle.rv_decode.specs.declared.Ins.TheVariants.{Lw, Srai}

-- registers 1 and 2 with these values
registers : (a b : ℕ) → List ℕ
registers a b = 0 ∷ a ∷ b ∷ []

div_by_zero : written (Div 3 1 2) 0 (registers 7 0) [] ≡ (3, 0xFFFFFFFF)
unfolding written registers
div_by_zero = refl

div_towards_zero : written (Div 3 1 2) 0 (registers (2 ^ 32 - 7) 2) [] ≡ (3, 0xFFFFFFFD)
unfolding written registers
div_towards_zero = refl

rem_of_negative : written (Rem 3 1 2) 0 (registers (2 ^ 32 - 7) 2) [] ≡ (3, 0xFFFFFFFF)
unfolding written registers
rem_of_negative = refl

div_overflow : written (Div 3 1 2) 0 (registers 0x80000000 0xFFFFFFFF) [] ≡ (3, 0x80000000)
unfolding written registers
div_overflow = refl

rem_overflow : written (Rem 3 1 2) 0 (registers 0x80000000 0xFFFFFFFF) [] ≡ (3, 0)
unfolding written registers
rem_overflow = refl

mul_low : written (Mul 3 1 2) 0 (registers 0xFFFFFFFF 0xFFFFFFFF) [] ≡ (3, 1)
unfolding written registers
mul_low = refl

mulh_high : written (Mulh 3 1 2) 0 (registers 0xFFFFFFFF 0xFFFFFFFF) [] ≡ (3, 0)
unfolding written registers
mulh_high = refl

mulhsu_high : written (Mulhsu 3 1 2) 0 (registers 0xFFFFFFFF 0xFFFFFFFF) [] ≡ (3, 0xFFFFFFFF)
unfolding written registers
mulhsu_high = refl

mulhu_high : written (Mulhu 3 1 2) 0 (registers 0xFFFFFFFF 0xFFFFFFFF) [] ≡ (3, 0xFFFFFFFE)
unfolding written registers
mulhu_high = refl

branch_back : next_pc (Bne 1 0 (negsuc 3)) 0x1008 (registers 2 0) ≡ Goto 0x1004
unfolding next_pc registers
branch_back = refl

shift_of_the_sign : written (Srai 3 1 4) 0 (registers 0x80000000 0) [] ≡ (3, 0xF8000000)
unfolding written registers
shift_of_the_sign = refl

-- a store across the end of memory, and the load back
over_the_end : written (Lw 3 0 (negsuc 1)) 0 (registers 0 0)
    (memory_after (Sw 0 1 (negsuc 1)) (registers 0x12003456 0) []) ≡ (3, 0x12003456)
unfolding written memory_after registers
over_the_end = refl

stored_in_order : memory_after (Sw 0 1 (negsuc 1)) (registers 0x12003456 0) []
    ≡ (1, 0x12) ∷ (0xFFFFFFFE, 0x56) ∷ (0xFFFFFFFF, 0x34) ∷ []
unfolding memory_after registers
stored_in_order = refl
