use Rattle.std.proofs.Common.{arith, ◌≡◌, ◌+◌, ap, ◌∙◌}
use Rattle.std.proofs.lemmas.List.{get_or_read}
use Rattle.std.proofs.lemmas.Grind.{common_steps}
use Rattle.crpd_base.specs.declared.data.Part.{Part}
use Rattle.delay_count.specs.Gamma.{part_at}
use Rattle.delay_count.proofs.Bits.{product, sum_of}
use Rattle.delay_count.proofs.window_demand.higher_demand.Goals as goal

pub returns-clause-is : goal.returns-clause-is
returns-clause-is c =
    let part : c.index-parts-j.result ≡ part_at c.args.parts.now c.args.higher.0 =
    get_or_read c.args.parts.now c.args.higher.0 c.index-parts-j.result
    (omega arith) c.index-parts-j.is _ in
    let bound = ap (λ (p : Part). p.bound) part in
    let each : c.from.result + (c.from-switch.result + c.from-switch.result)
    ≡ (part_at c.args.parts.now c.args.higher.0).bound
    + (c.args.set.now.platform.switch + c.args.set.now.platform.switch) = omega (arith, bound) in
    sum_of _ _ _ _ (product _ _ _ _ (c.from-2.ensures ∙ c.jobs.ensures) each) c.delay.ensures.is

pub overflow_add-result : goal.overflow_add-result
overflow_add-result c = grind (arith, common_steps)

pub overflow_mul-result : goal.overflow_mul-result
overflow_mul-result c = grind (arith, common_steps)

pub returns-clause-most : goal.returns-clause-most
returns-clause-most c = grind (arith, common_steps)
