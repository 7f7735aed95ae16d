use Rattle.std.proofs.Common.{◌≡◌, length-set, arith}
use Rattle.std.proofs.lemmas.Grind.{common_steps}
use Rattle.delay_count.specs.Gamma.{count_at}
use Rattle.delay_count.proofs.Written.{written_each}
use Rattle.delay_count.proofs.union.counts_of.Goals as goal

pub loop-k-preserved : goal.loop-k-preserved
loop-k-preserved g c = record {
  room = simp length-set c.loop-k.invariant.room;
  done =
      written_each (λ k x. x ≡ count_at c.args.lower.now k) c.loop-k.counts c.loop-k.k _
      (omega arith) c.loop-k.invariant.done (grind (arith, common_steps));
}

pub returns : goal.returns
returns g c = λ k lt. c.loop-k.invariant.done k (omega arith)
