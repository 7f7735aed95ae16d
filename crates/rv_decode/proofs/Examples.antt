-- The table on example words of the manual, by computation.
use Rattle.std.proofs.Common.{◌≡◌, refl, Some, None, pos, negsuc}
use Rattle.rv_decode.specs.Table.{ins_of_word, table}
use Rattle.rv_decode.specs.declared.Ins.TheVariants.{Addi, Bne, Srai, Div, Jal, Sw, Ebreak}

addi : ins_of_word 0x00100293 ≡ Some (Addi 5 0 (pos 1))
unfolding ins_of_word table
addi = refl

-- a branch backward by 4
bne : ins_of_word 0xFE029EE3 ≡ Some (Bne 5 0 (negsuc 3))
unfolding ins_of_word table
bne = refl

jal : ins_of_word 0xFF5FF06F ≡ Some (Jal 0 (negsuc 11))
unfolding ins_of_word table
jal = refl

sw : ins_of_word 0x00112623 ≡ Some (Sw 2 1 (pos 12))
unfolding ins_of_word table
sw = refl

srai : ins_of_word 0x40105013 ≡ Some (Srai 0 0 1)
unfolding ins_of_word table
srai = refl

shift_of_no_row : ins_of_word 0x20105013 ≡ None
unfolding ins_of_word table
shift_of_no_row = refl

div : ins_of_word 0x027342B3 ≡ Some (Div 5 6 7)
unfolding ins_of_word table
div = refl

product_of_no_row : ins_of_word 0x047302B3 ≡ None
unfolding ins_of_word table
product_of_no_row = refl

ebreak : ins_of_word 0x00100073 ≡ Some Ebreak
unfolding ins_of_word table
ebreak = refl
