use Rattle.std.proofs.Common.{◌-◌, arith}
use Rattle.std.proofs.lemmas.Int.{ints}
use Rattle.std.proofs.lemmas.Nat.{one_shl}
use Rattle.rv_decode.proofs.Bits.{power_twice, power_small}
use Rattle.rv_decode.proofs.Pieces.{signed_low, negative_bits}
use Rattle.rv_decode.proofs.writing.bits_of.Goals as goal

pub overflow_add-result : goal.overflow_add-result
overflow_add-result c =
    let h = one_shl c.args.count 32 (omega arith) in
    let small = power_small (c.args.count - 1) (omega arith) in
    let twice = power_twice c.args.count c.requires.some in
    omega (arith, ints)

pub overflow_cast-result-then-imm-lt0 : goal.overflow_cast-result-then-imm-lt0
overflow_cast-result-then-imm-lt0 c =
    let h = one_shl c.args.count 32 (omega arith) in
    let small = power_small (c.args.count - 1) (omega arith) in
    let twice = power_twice c.args.count c.requires.some in
    let low = signed_low c.args.count c.args.imm c.requires.within in
    omega (arith, ints)

pub returns-then-imm-lt0-clause-value : goal.returns-then-imm-lt0-clause-value
returns-then-imm-lt0-clause-value c =
    let h = one_shl c.args.count 32 (omega arith) in
    let small = power_small (c.args.count - 1) (omega arith) in
    let twice = power_twice c.args.count c.requires.some in
    let low = signed_low c.args.count c.args.imm c.requires.within in
    let e = negative_bits c.args.count c.args.imm c.requires.some c.requires.within
    (omega (arith, ints)) in
    omega (arith, ints)
