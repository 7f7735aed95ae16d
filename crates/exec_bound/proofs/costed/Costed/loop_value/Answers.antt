use Rattle.std.proofs.Common.{◌≡◌, ℕ, ◌≤◌, ◌+◌, ◌*◌, ◌∙◌, ap, arith, mul-le-mul_left}
use Rattle.std.proofs.Common.{mul-le-mul_right}
use Rattle.std.proofs.lemmas.Grind.{get_or_default_zero}
use Rattle.loop_regions.specs.CodeNest.{nest_of}
use Rattle.exec_bound.specs.Costs.{greatest_bound}
use Rattle.loop_regions.proofs.Beside.{turns}
use Rattle.exec_bound.proofs.GreatestBound.{greatest_is}
use Rattle.exec_bound.proofs.costed.Costed.loop_value.Goals as goal

-- iterations of at most 2^40 cycles
turns_le : (b x : ℕ) → b ≤ 1000000 → x ≤ greatest_bound → b * x ≤ 1000000 * 1099511627776
turns_le b x most small =
    let is : greatest_bound ≡ 1099511627776 = greatest_is in
    let m = mul-le-mul_left b (let le : x ≤ 1099511627776 = omega (arith, is, small) in le) in
    let k = mul-le-mul_right 1099511627776 most in
    omega (arith, m, k)

pub overflow_mul-turns : goal.overflow_mul-turns
overflow_mul-turns c =
    let most = (turns c.args.self.now.graph.now c.args.self.now.nest.now c.requires.costed.beside
    c.args.region c.requires.region).1 in
    let m = turns_le c.from.result c.args.value
    (omega (arith, most, c.from.ensures, c.bound.ensures)) c.requires.value in
    omega (arith, m)

pub overflow_add-result : goal.overflow_add-result
overflow_add-result c =
    let most = (turns c.args.self.now.graph.now c.args.self.now.nest.now c.requires.costed.beside
    c.args.region c.requires.region).1 in
    let m = turns_le c.from.result c.args.value
    (omega (arith, most, c.from.ensures, c.bound.ensures)) c.requires.value in
    let is : greatest_bound ≡ 1099511627776 = greatest_is in
    let read = c.index.ensures ∙ get_or_default_zero c.args.values.now.exits.items c.args.region
    c.index.result.now (omega (arith, c.requires.region, c.requires.exits)) in
    omega (arith, m, is, read, c.requires.exit)

pub returns : goal.returns
returns c =
    let read = c.index.ensures ∙ get_or_default_zero c.args.values.now.exits.items c.args.region
    c.index.result.now (omega (arith, c.requires.region, c.requires.exits)) in
    ap (λ x. x * c.args.value + c.index.result.now) (c.from.ensures ∙ c.bound.ensures)
    ∙ ap (λ x. (nest_of c.args.self.now.nest.now).bound c.args.region * c.args.value + x) read
