use Rattle.std.proofs.Common.{◌≡◌, ℕ, ◌<◌, List, [], get_or, arith, length, take, subst}
use Rattle.std.proofs.lemmas.List.{take_all, get_or_default}
use Rattle.must_cache.specs.Marks.{sets_at}
use Rattle.must_cache.specs.States.{state_at}
use Rattle.persistent_blocks.specs.Inner.Noted.{AreNoted, with_round}
use Rattle.persistent_blocks.proofs.Noting.{round_none, round_past, round_more}
use Rattle.persistent_blocks.proofs.region_pairs.note_round.Goals as goal
use Rattle.persistent_blocks.proofs.region_pairs.note_round.Goals.{then-is_listed, else-is_listed}

pub loop-r-init : goal.loop-r-init
loop-r-init c a noted y here is H =
    round_none a noted y c.args.regions.now c.args.first.now c.args.mixed.now H

pub loop-r-preserved : goal.loop-r-preserved
loop-r-preserved c a noted y here is H =
    let before = c.loop-r.invariant a noted y here is H in
    elim c.if-is_listed.branch [
      | then-is_listed w ↦
          let k = get_or c.args.regions.now c.loop-r.r-index 0 in
          let there : k < length c.loop-r.first = w.if-is_listed.true in
          let count : length c.loop-r.mixed ≡ length c.loop-r.first =
          omega (arith, c.loop-r.auto, c.requires.count) in
          let state : get_or c.loop-r.first k w.index-first-region.result
          ≡ state_at c.loop-r.first k = get_or_default c.loop-r.first k _ [] there in
          let sets : get_or c.loop-r.mixed k w.index-mixed-region.result
          ≡ sets_at c.loop-r.mixed k = get_or_default c.loop-r.mixed k _ [] (omega arith) in
          rw (w.first-is, w.mixed-is)
          (round_more a noted y c.args.regions.now c.loop-r.r-index c.loop-r-test.true
          c.loop-r.first c.loop-r.mixed w.note.new.first w.note.new.mixed count there before
          (λ h. w.note.ensures a (with_round noted (take c.loop-r.r-index c.args.regions.now) y k) y
          here is (rw (state, sets) h)))
      | else-is_listed w ↦
          rw (w.first-is, w.mixed-is)
          (round_past a noted y c.args.regions.now c.loop-r.r-index c.loop-r-test.true
          c.loop-r.first c.loop-r.mixed w.if-is_listed.false before)
    ]

pub returns : goal.returns
returns c a noted y here is H =
    let all : take c.loop-r.r-index c.args.regions.now ≡ c.args.regions.now =
    take_all c.loop-r.r-index c.args.regions.now c.loop-r-test.false in
    subst (λ (l : List ℕ). AreNoted a (with_round noted l y) c.loop-r.first c.loop-r.mixed) all
    (c.loop-r.invariant a noted y here is H)
