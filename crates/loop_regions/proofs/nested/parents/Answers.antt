use Rattle.std.proofs.Common.{◌≡◌, ◌∙◌, ◌<◌, [], Some, sym, subst, arith, length}
use Rattle.std.proofs.lemmas.List.{get_or_default}
use Rattle.loop_regions.specs.CodeNest.{row}
use Rattle.loop_regions.specs.Inner.FoundRegions.{nest_in, AreInLine, IsInnermost}
use Rattle.loop_regions.specs.Levels.{IsParent}
use Rattle.loop_regions.specs.Inner.Heads.{nodes_of, bounds_of}
use Rattle.loop_regions.proofs.Lines.{round_region, parent_of, answer_more}
use Rattle.loop_regions.proofs.nested.parents.Goals as goal

pub innermost-requires : goal.innermost-requires
innermost-requires c =
    let around = c.args.around.now in
    let r = c.loop-r.r in
    let lt : r < length around = omega (arith, c.requires.around.regions) in
    let is : c.as_slice.result.now ≡ row around r =
    c.as_slice.ensures ∙ c.index-around-r.is
    ∙ get_or_default around r c.index-around-r.result [] lt in
    subst (λ xs. AreInLine around xs) (sym is)
    (round_region (nodes_of c.args.regions.now.heads) (bounds_of c.args.regions.now.heads) c.args.regions.now.holders
    around c.args.regions.now.sound c.requires.around c.requires.nested r (omega arith))

pub loop-r-preserved : goal.loop-r-preserved
loop-r-preserved c =
    let around = c.args.around.now in
    let r = c.loop-r.r in
    let lt : r < length around = omega (arith, c.requires.around.regions) in
    let is : c.as_slice.result.now ≡ row around r =
    c.as_slice.ensures ∙ c.index-around-r.is
    ∙ get_or_default around r c.index-around-r.result [] lt in
    answer_more (IsParent (nest_in c.args.regions.now)) c.loop-r.parents.items c.push.new.self.items
    c.innermost.result r c.in_ok-push.ensures.items c.loop-r.invariant.0
    (parent_of (nodes_of c.args.regions.now.heads) (bounds_of c.args.regions.now.heads) c.args.regions.now.holders around
    c.args.regions.now.sound c.requires.around r c.innermost.result (omega arith)
    (subst (λ xs. IsInnermost around xs (Some r) c.innermost.result) is c.innermost.ensures))
    c.loop-r.invariant.1
