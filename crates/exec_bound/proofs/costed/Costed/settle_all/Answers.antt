use Rattle.std.proofs.Common.{◌≡◌, IsTrue, arith, subst, inl, inr}
use Rattle.std.proofs.lemmas.Bool.{cases_lt}
use Rattle.std.proofs.lemmas.Grind.{common_steps}
use Rattle.exec_bound.specs.Inner.Settled.{is_settled}
use Rattle.exec_bound.proofs.costed.Costed.settle_all.Goals as goal
use Rattle.exec_bound.proofs.costed.Costed.settle_all.Goals.{then-not-index+in_ok-settle_from, else-not-index}

pub loop-node-init : goal.loop-node-init
loop-node-init c = grind (arith, common_steps)

pub returns : goal.returns
returns c = grind (arith, common_steps)

pub loop-node-preserved : goal.loop-node-preserved
loop-node-preserved c =
    elim c.if-not-index.branch [
      | then-not-index+in_ok-settle_from w ↦
          let e = w.in_ok-settle_from.ensures in
          rw (w.values-is, w.path-is) (record {
            settled = e.settled;
            path = e.path;
            found = λ u lt. elim (cases_lt u c.loop-node.node) [
              | inl less ↦ e.kept u (c.loop-node.invariant.found u less)
              | inr not ↦
                  let same : c.loop-node.node ≡ u = omega (arith, lt, not) in
                  subst (λ k. IsTrue (is_settled w.settle_from.new.values.settled.items k))
                  same e.start
            ];
          })
      | else-not-index w ↦
          rw (w.values-is, w.path-is) (record {
            settled = c.loop-node.invariant.settled;
            path = c.loop-node.invariant.path;
            found = λ u lt. elim (cases_lt u c.loop-node.node) [
              | inl less ↦ c.loop-node.invariant.found u less
              | inr not ↦
                  let same : c.loop-node.node ≡ u = omega (arith, lt, not) in
                  subst (λ k. IsTrue (is_settled c.loop-node.values.settled.items k)) same
                  (grind (arith, common_steps))
            ];
          })
    ]
