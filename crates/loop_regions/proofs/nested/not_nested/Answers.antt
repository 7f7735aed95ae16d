use Rattle.std.proofs.Common.{◌∙◌, sym, ap, ⊎_elim, arith}
use Rattle.std.proofs.lemmas.Bool.{cases_lt, both_ways}
use Rattle.loop_regions.specs.CodeNest.{row}
use Rattle.loop_regions.specs.Inner.FoundRegions.{are_across}
use Rattle.loop_regions.specs.Inner.Heads.{nodes_of, bounds_of}
use Rattle.loop_regions.proofs.Lines.{across_from, across, none_across}
use Rattle.loop_regions.proofs.nested.not_nested.Goals as goal

pub returns-then-are_across : goal.returns-then-are_across
returns-then-are_across c =
    let around = c.args.around.now in
    let holders = c.args.regions.now.holders in
    let y = c.loop-y.y in (
      across_from (nodes_of c.args.regions.now.heads) (bounds_of c.args.regions.now.heads) c.args.regions.now.holders
          around c.args.regions.now.sound c.requires y
          (ap (are_across around) (sym c.holders.ensures) ∙ sym c.are_across.ensures
          ∙ c.if-are_across.true),
      λ b n. ⊎_elim
          (λ lt. absurd
          (both_ways (are_across around (row holders b)) (c.loop-y.invariant b lt)
          (across (nodes_of c.args.regions.now.heads) (bounds_of c.args.regions.now.heads) c.args.regions.now.holders
          around c.args.regions.now.sound c.requires b n)))
          (λ le. le)
          (cases_lt b y),
    )

pub returns : goal.returns
returns c =
    let around = c.args.around.now in
    let holders = c.args.regions.now.holders in
    λ a n. ⊎_elim
    (λ lt. both_ways (are_across around (row holders a)) (c.loop-y.invariant a lt)
    (across (nodes_of c.args.regions.now.heads) (bounds_of c.args.regions.now.heads) c.args.regions.now.holders around
    c.args.regions.now.sound c.requires a n))
    (λ le. none_across (nodes_of c.args.regions.now.heads) (bounds_of c.args.regions.now.heads) c.args.regions.now.holders
    around c.args.regions.now.sound c.requires a (omega arith) n)
    (cases_lt a c.loop-y.y)
