use Rattle.std.proofs.Common.{◌≡◌, ℕ, ◌*◌, ◌<◌, ◌+◌, List, [], ◌∷◌, length}
use Rattle.std.proofs.Common.{get_or, ap, ◌∙◌, arith, length-append}
use Rattle.std.proofs.lemmas.List.{get_or_default}
use Rattle.exec_bound.specs.Costs.{greatest_bound}
use Rattle.must_cache.specs.Marks.{sets_at}
use Rattle.persistent_blocks.specs.Inner.Paid.{sets_in}
use Rattle.persistent_blocks.proofs.PaidTable.{price_small, price_more}
use Rattle.persistent_blocks.proofs.payments_table.prices.Goals as goal

pub loop-sets-preserved : goal.loop-sets-preserved
loop-sets-preserved c =
    let table = c.args.table.now.sets.items in
    let at : c.loop-sets.sets-index < length table =
    omega (arith, c.loop-sets-test.true, ap (λ (l : List (List ℕ)). length l) c.deref-sets-items.ensures.value) in
    let read : c.sets-item.result ≡ sets_at table c.loop-sets.sets-index =
    c.sets-item.is ∙ ap (λ (l : List (List ℕ)). get_or l c.loop-sets.sets-index c.sets-item.result)
    c.deref-sets-items.ensures.value ∙ get_or_default table c.loop-sets.sets-index _ [] at in
    record {
      count =
          ap (λ (l : List ℕ). length l) c.in_ok-push.ensures.items
          ∙ length-append c.loop-sets.prices.items (c.price.result ∷ [])
          ∙ ap (λ k. k + 1) c.loop-sets.invariant.count;
      each = price_more c.args.miss table c.loop-sets.prices.items c.push.new.self.items
          c.loop-sets.sets-index c.price.result c.in_ok-push.ensures.items
          c.loop-sets.invariant.count
          (c.price.ensures.is ∙ ap (λ (w : List ℕ). c.args.miss * sets_in w) read)
          c.loop-sets.invariant.each;
    }

pub returns-clause-are : goal.returns-clause-are
returns-clause-are c k lt =
    c.loop-sets.invariant.each k
    (omega (
      arith,
      lt,
      c.loop-sets-test.false,
      ap (λ (l : List (List ℕ)). length l) c.deref-sets-items.ensures.value,
    ))

pub returns-clause-small : goal.returns-clause-small
unfolding greatest_bound
returns-clause-small c k d lt =
    let miss = c.args.miss in
    let table = c.args.table.now.sets.items in
    let prices = c.loop-sets.prices.items in
    let is : get_or prices k d ≡ miss * sets_in (sets_at table k) =
    get_or_default prices k d 0 lt
    ∙ c.loop-sets.invariant.each k (omega (arith, lt, c.loop-sets.invariant.count)) in
    let small = price_small miss (sets_at table k) c.requires in
    omega (arith, is, small)
