use Rattle.std.proofs.Common.{◌<◌, below_more, refl, arith, length}
use Rattle.std.proofs.lemmas.Bool.{false≢true}
use Rattle.flat_graph.proofs.same_code.fits.Goals as goal

pub returns-then-not-stands : goal.returns-then-not-stands
returns-then-not-stands c = (
  (λ t. absurd (false≢true t)),
  (λ F.
      let within : c.loop-u.u < length c.args.graph.now.nodes = omega arith in
      c.if-not-stands.ensures.1 (F.stands c.loop-u.u within)),
)

pub loop-u-preserved : goal.loop-u-preserved
loop-u-preserved c = below_more _ _ c.loop-u.invariant (c.if-not-stands.ensures.0 refl)
