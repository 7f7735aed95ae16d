use Rattle.std.proofs.Common.{arith, ◌∙◌}
use Rattle.std.proofs.lemmas.Bool.{lt-ltb, ne_eqb}
use Rattle.delay_count.proofs.Bits.{product}
use Rattle.delay_count.proofs.rates.preemption_rate.Goals as goal

pub returns : goal.returns
returns c =
    let t = lt-ltb c.args.j c.args.k c.if-k-j.false in
    let e = ne_eqb c.args.k c.args.i c.if-k-i.false in
    let p = product _ _ _ _ (c.from-each.ensures ∙ c.jobs.ensures)
    (c.from.ensures ∙ c.job_rate-2.ensures.is) in
    rw (t, e) (omega (arith, p))
