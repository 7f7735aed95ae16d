use Rattle.std.proofs.Common.{◌≡◌, ◌∙◌, ◌<◌, List, ℕ, [], sym, ap, subst, arith, length, map}
use Rattle.std.proofs.Common.{get_or, slice_index}
use Rattle.std.proofs.lemmas.List.{get_or_default, length-map, get_or-map}
use Rattle.crpd_base.proofs.Elements.{pushed_each, count_more}
use Rattle.loop_regions.specs.CodeNest.{row}
use Rattle.loop_regions.specs.declared.found.Regions.{Regions}
use Rattle.loop_regions.specs.declared.heads.Head.{Head}
use Rattle.loop_regions.specs.Inner.FoundRegions.{nest_in}
use Rattle.loop_regions.proofs.around.at_heads.Goals as goal

all_heads : (regions : Regions) (heads : List Head) → heads ≡ regions.heads
    → (nest_in regions).size ≡ length heads
all_heads regions heads e = length-map regions.heads (λ (h : Head). h.node) ∙ ap length (sym e)

abbrev none : Head
none = record { node = 0; stated = 0; bound = 0 }

head_of : (regions : Regions) (heads : List Head) → heads ≡ regions.heads → (r : ℕ)
    → r < length heads → (nest_in regions).head r ≡ (get_or heads r none).node
head_of regions heads e r lt =
    ap (λ (xs : List Head). slice_index (map (λ (h : Head). h.node) xs) r) (sym e)
    ∙ get_or-map (λ (h : Head). h.node) heads r none 0 lt

is_node : (regions : Regions) (heads : List Head) → heads ≡ regions.heads → (r : ℕ)
    → r < length heads → (get_or heads r none).node < length regions.holders
is_node regions heads e r lt =
    subst (λ y. y < length regions.holders) (head_of regions heads e r lt)
    (regions.sound.head_nodes r (subst (λ n. r < n) (sym (all_heads regions heads e)) lt))

pub index-requires : goal.index-requires
index-requires c =
    is_node c.args.regions.now c.as_slice-heads.result.now c.as_slice-heads.ensures
    c.loop-head.head-index c.loop-head-test.true

pub loop-head-preserved : goal.loop-head-preserved
loop-head-preserved c =
    let regions = c.args.regions.now in
    let rows = c.loop-head.rows.items in
    let k = c.loop-head.head-index in
    let held = regions.holders in
    let heads = c.as_slice-heads.result.now in
    let y = (get_or heads k none).node in (
      count_more rows c.push.new.self.items c.in_ok-clone.field-0 k
          c.in_ok-push.ensures.items c.loop-head.invariant.0,
      pushed_each
          (λ r (x : List ℕ). x ≡ row held ((nest_in regions).head r))
          rows c.push.new.self.items c.in_ok-clone.field-0 [] k c.in_ok-push.ensures.items
          c.loop-head.invariant.0 c.loop-head.invariant.1
          (c.in_ok-clone.ensures.cases ∙ c.index.ensures
          ∙ get_or_default held y c.index.result.now []
          (is_node regions heads c.as_slice-heads.ensures k c.loop-head-test.true)
          ∙ ap (row held)
          (sym (head_of regions heads c.as_slice-heads.ensures k c.loop-head-test.true))),
    )

pub returns-clause-regions : goal.returns-clause-regions
returns-clause-regions c =
    omega (
      arith,
      c.loop-head.invariant.0,
      all_heads c.args.regions.now c.as_slice-heads.result.now c.as_slice-heads.ensures,
    )

pub returns-clause-rows : goal.returns-clause-rows
returns-clause-rows c r lt =
    c.loop-head.invariant.1 r
    (omega (
      arith,
      lt,
      all_heads c.args.regions.now c.as_slice-heads.result.now c.as_slice-heads.ensures,
    ))
