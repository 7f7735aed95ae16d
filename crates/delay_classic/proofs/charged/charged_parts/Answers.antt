use Rattle.std.proofs.Common.{arith, ◌≡◌, ◌≤◌, ◌^◌, length-set, ap}
use Rattle.std.proofs.lemmas.List.{get_or_read}
use Rattle.crpd_base.specs.declared.data.Part.{Part}
use Rattle.delay_count.specs.Gamma.{part_at}
use Rattle.delay_classic.proofs.Charges.{charged_more, not_member, reloads_few}
use Rattle.delay_classic.proofs.charged.charged_parts.Goals as goal

pub overflow_cast-charged : goal.overflow_cast-charged
overflow_cast-charged c =
    let few : c.reloads-reloads.result ≤ 2 ^ 41 =
    reloads_few (part_at c.args.parts.now) c.args.method c.args.task.0 c.loop-j.j c.args.miss
    c.reloads-reloads.result c.ranges.miss.fits c.reloads-reloads.ensures in
    omega (arith, few)

pub overflow_add-charged : goal.overflow_add-charged
overflow_add-charged c =
    let few : c.reloads-reloads.result ≤ 2 ^ 41 =
    reloads_few (part_at c.args.parts.now) c.args.method c.args.task.0 c.loop-j.j c.args.miss
    c.reloads-reloads.result c.ranges.miss.fits c.reloads-reloads.ensures in
    let part : c.index-parts-j.result ≡ part_at c.args.parts.now c.loop-j.j =
    get_or_read c.args.parts.now c.loop-j.j c.index-parts-j.result
    (omega arith) c.index-parts-j.is _ in
    let bound = ap (λ (p : Part). p.bound) part in
    let low = c.requires.bounds c.loop-j.j (omega arith) in
    omega (arith, few, bound, low)

pub loop-j-preserved : goal.loop-j-preserved
loop-j-preserved c =
    let part : c.index-parts-j.result ≡ part_at c.args.parts.now c.loop-j.j =
    get_or_read c.args.parts.now c.loop-j.j c.index-parts-j.result
    (omega arith) c.index-parts-j.is _ in
    let bound = ap (λ (p : Part). p.bound) part in
    record {
      room = simp length-set c.loop-j.invariant.room;
      done =
          charged_more c.args.miss (part_at c.args.parts.now) c.args.method c.args.task.0
          c.loop-j.charged c.loop-j.j _ (omega (arith, c.loop-j.invariant.room))
          c.loop-j.invariant.done
          (record {
            bound = omega (arith, bound, c.reloads-reloads.ensures);
            useful = λ s. not_member c.new-in-loop-j-2.result s (c.new-in-loop-j-2.ensures s);
          });
    }
