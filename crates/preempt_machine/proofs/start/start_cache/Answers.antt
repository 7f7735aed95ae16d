use Rattle.std.proofs.Common.{◌<◌, ◌≤◌, length, sym, ◌∙◌, ap}
use Rattle.std.proofs.lemmas.List.{take_all}
use Rattle.icache.specs.Cache.{Cache}
use Rattle.preempt_machine.specs.Starts.{start_cache, with_blocks}
use Rattle.preempt_machine.proofs.Loads.{empty_is, next_block}
use Rattle.preempt_machine.proofs.start.start_cache.Goals as goal

pub loop-block-preserved : goal.loop-block-preserved
loop-block-preserved c =
    let p = c.args.set.now.platform in
    let blocks = c.args.script.now.cache in
    let i = c.loop-block.block-index in
    let h = c.loop-block.invariant in
    let inside : i < length blocks = rw (sym h.items) c.loop-block-test.true in
    record {
      cache =
          rw (c.access.ensures.after, h.geometry, h.items, h.cache)
          (sym (next_block p c.empty-cache.result blocks i inside));
      items = h.items;
      room = c.access.ensures.sets ∙ h.room;
      geometry = h.geometry;
    }

pub returns-clause-is : goal.returns-clause-is
unfolding start_cache
returns-clause-is c =
    let p = c.args.set.now.platform in
    let blocks = c.args.script.now.cache in
    let i = c.loop-block.block-index in
    let h = c.loop-block.invariant in
    let past : length blocks ≤ i = rw (sym h.items) c.loop-block-test.false in
    h.cache
    ∙ ap (with_blocks p c.empty-cache.result) (take_all i blocks past)
    ∙ ap (λ (cache : Cache). with_blocks p cache blocks)
    (empty_is 512 c.empty-cache.result c.empty-cache.ensures.sets c.empty-cache.ensures.none)
