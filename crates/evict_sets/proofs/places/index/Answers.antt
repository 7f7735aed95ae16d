use Rattle.std.proofs.Common.{◌+◌, ◌-◌, ◌<◌, ◌≡◌, length, get_or, suc, sym, ap, subst, arith}
use Rattle.std.proofs.Common.{rules}
use Rattle.evict_sets.proofs.Entries.{ArePlaced, none_placed, placed_more, placed_past}
use Rattle.evict_sets.proofs.places.index.Goals as goal
use Rattle.evict_sets.proofs.places.index.Goals.{then-node-nodes, else-node-nodes}

pub loop-done-init : goal.loop-done-init
loop-done-init c =
    none_placed c.args.states.now c.fill.new.self _ (c.fill.ensures.after (λ y e. search rules))

pub loop-done-preserved : goal.loop-done-preserved
loop-done-preserved c =
    let states = c.args.states.now in
    let places = c.loop-done.places in
    let place = length states - 1 - c.loop-done.done in
    let s = get_or states place c.index-states-place.result in
    let is = ap (get_or states place) c.index-states-place.is in
    let below : place < length states = omega (arith, c.loop-done-test.true) in
    let behind : length states - c.loop-done.done ≡ suc place =
    omega (arith, c.loop-done-test.true) in
    let before = subst (ArePlaced states places) behind c.loop-done.invariant in
    let next : place ≡ length states - (c.loop-done.done + 1) = omega arith in
    subst (ArePlaced states c.if-node-nodes.places) next
    (elim c.if-node-nodes.branch [
      | then-node-nodes w ↦
          subst (λ x. ArePlaced states x place) (sym w.places-is)
          (placed_more states place s below is places
          (omega (arith, w.if-node-nodes.true, c.loop-done.auto.places, c.requires)) before)
      | else-node-nodes w ↦
          subst (λ x. ArePlaced states x place) (sym w.places-is)
          (placed_past states place s below is places
          (omega (arith, w.if-node-nodes.false, c.loop-done.auto.places, c.requires)) before)
    ])
