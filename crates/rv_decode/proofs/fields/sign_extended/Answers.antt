use Rattle.std.proofs.Common.{◌-◌, arith}
use Rattle.std.proofs.lemmas.Int.{ints}
use Rattle.std.proofs.lemmas.Nat.{one_shl}
use Rattle.rv_decode.proofs.Bits.{power_twice, power_small}
use Rattle.rv_decode.proofs.fields.sign_extended.Goals as goal

pub overflow_mul-result : goal.overflow_mul-result
overflow_mul-result c =
    let h = one_shl (c.args.count - 1) 32 (omega arith) in
    let small = power_small (c.args.count - 1) (omega arith) in
    omega (arith, ints)

pub overflow_sub-result : goal.overflow_sub-result
overflow_sub-result c =
    let h = one_shl (c.args.count - 1) 32 (omega arith) in
    let small = power_small (c.args.count - 1) (omega arith) in
    let twice = power_twice c.args.count c.requires.some in
    omega (arith, ints)

pub returns-else-number-half : goal.returns-else-number-half
returns-else-number-half c =
    let h = one_shl (c.args.count - 1) 32 (omega arith) in
    let small = power_small (c.args.count - 1) (omega arith) in
    let twice = power_twice c.args.count c.requires.some in
    grind (arith, ints)

pub returns-then-number-half : goal.returns-then-number-half
returns-then-number-half c =
    let h = one_shl (c.args.count - 1) 32 (omega arith) in
    let small = power_small (c.args.count - 1) (omega arith) in
    grind (arith, ints)
