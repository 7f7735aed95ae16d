use Rattle.std.proofs.Common.{◌∙◌, sym, arith, inl, inr}
use Rattle.crpd_base.specs.Sets.{has}
use Rattle.delay_point.proofs.Further.{has_more, filled_none, filled_more, filled_same, filled_all}
use Rattle.delay_point.proofs.standing.with_further.Goals as goal
use Rattle.delay_point.proofs.standing.with_further.Goals.{else-count-most}
use Rattle.delay_point.proofs.standing.with_further.Goals.{then-count-most+then-is_further}
use Rattle.delay_point.proofs.standing.with_further.Goals.{else-count-most-via-else-count-most}
use Rattle.delay_point.proofs.standing.with_further.Goals.{else-count-most-via-then-count-most+else-is_further}

pub loop-s-init : goal.loop-s-init
loop-s-init c =
    filled_none (has c.args.standing.now) (has c.args.known.now) (has c.args.evicted.now) c.args.most
    c.requires.standing c.requires.known c.requires.fewer c.shared-count.result
    c.shared-count.ensures.is

pub returns-clause-evicted : goal.returns-clause-evicted
returns-clause-evicted c = c.loop-s.invariant.inside

pub returns-clause-kept : goal.returns-clause-kept
returns-clause-kept c = c.loop-s.invariant.kept

pub returns-clause-most : goal.returns-clause-most
returns-clause-most c =
    filled_all (has c.args.standing.now) (has c.args.known.now) (has c.args.evicted.now) c.args.most
    c.requires.standing c.requires.known c.requires.fewer c.loop-s.s c.loop-s.count
    (has c.loop-s.sets) (omega arith) c.requires.enough c.loop-s.invariant

pub loop-s-preserved : goal.loop-s-preserved
loop-s-preserved c =
    elim c.if-count-most.branch [
      | then-count-most+then-is_further w ↦
          let more = has_more c.loop-s.sets w.insert.new.self c.loop-s.s w.insert.ensures in
          rw (w.sets-is, w.count-is)
          (filled_more (has c.args.standing.now) (has c.args.known.now) (has c.args.evicted.now)
          c.args.most c.requires.standing c.requires.known c.requires.fewer c.loop-s.s
          c.loop-s.count (has c.loop-s.sets) (has w.insert.new.self) c.loop-s-test.true
          w.if-count-most.true (sym w.is_further.ensures ∙ w.if-is_further.true) c.loop-s.invariant
          more.0 more.1)
      | else-count-most w ↦
          rw (w.sets-is, w.count-is)
          (filled_same (has c.args.standing.now) (has c.args.known.now) (has c.args.evicted.now)
          c.args.most c.requires.standing c.requires.known c.requires.fewer c.loop-s.s
          c.loop-s.count (has c.loop-s.sets)
          (elim w.else-count-most.branch [
            | else-count-most-via-then-count-most+else-is_further v ↦
                inr (sym v.is_further.ensures ∙ v.if-is_further.false)
            | else-count-most-via-else-count-most v ↦ inl (omega (arith, v.if-count-most.false))
          ]) c.loop-s.invariant)
    ]
