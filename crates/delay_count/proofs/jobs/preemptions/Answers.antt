use Rattle.std.proofs.Common.{◌∙◌}
use Rattle.std.proofs.lemmas.Bool.{lt-ltb, ne_eqb}
use Rattle.delay_count.proofs.Bits.{product}
use Rattle.delay_count.proofs.jobs.preemptions.Goals as goal

pub returns : goal.returns
returns c =
    let t = lt-ltb c.args.j c.args.k c.if-k-j.false in
    let e = ne_eqb c.args.k c.args.i c.if-k-i.false in
    rw (t, e)
    (product _ _ _ _ (c.from-2.ensures ∙ c.jobs-2.ensures) (c.from-3.ensures ∙ c.jobs-3.ensures))
