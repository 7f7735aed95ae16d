use Rattle.std.proofs.Common.{◌+◌, refl, sym, ◌∙◌, subst, arith}
use Rattle.std.proofs.lemmas.Bool.{false≢true}
use Rattle.evict_sets.proofs.Pairs.{PairsTo, all_held, not_held, pairs_skip, pairs_more}
use Rattle.evict_sets.proofs.blocks.are_held.Goals as goal
use Rattle.evict_sets.proofs.blocks.are_held.Goals.{then-not-has+else-not-is_held, else-not-has}

pub returns-then-not-is_held : goal.returns-then-not-is_held
returns-then-not-is_held c = (
  λ t. absurd (false≢true t),
  λ all. absurd
      (not_held c.args.blocks.now c.args.sure.now c.loop-k.seen c.loop-k.k c.loop-k-test.true
      (λ e. false≢true (sym c.if-not-has.true ∙ c.has.ensures.1 e)) c.loop-k.invariant
      (λ e. false≢true (sym c.if-not-is_held.true ∙ c.is_held.ensures.1 e)) all),
)

pub loop-k-preserved : goal.loop-k-preserved
loop-k-preserved c =
    elim c.if-not-has.branch [
      | then-not-has+else-not-is_held w ↦
          subst (λ x. PairsTo c.args.blocks.now c.args.sure.now x (c.loop-k.k + 1)) (sym w.seen-is)
          (pairs_more c.args.blocks.now c.args.sure.now c.loop-k.seen w.insert.new.self c.loop-k.k
          (w.is_held.ensures.0 w.if-not-is_held.false) w.insert.ensures c.loop-k.invariant)
      | else-not-has w ↦
          subst (λ x. PairsTo c.args.blocks.now c.args.sure.now x (c.loop-k.k + 1)) (sym w.seen-is)
          (pairs_skip c.args.blocks.now c.args.sure.now c.loop-k.seen c.loop-k.k
          (c.has.ensures.0 w.if-not-has.false) c.loop-k.invariant)
    ]

pub returns : goal.returns
returns c = (
  λ t. all_held c.args.blocks.now c.args.sure.now c.loop-k.seen c.loop-k.k
      (omega (arith, c.loop-k-test.false)) c.loop-k.invariant,
  λ all. refl,
)
