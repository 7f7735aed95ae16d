use Rattle.std.proofs.Common.{◌↔◌, ℕ, Bool, IsTrue, sym, subst, arith}
use Rattle.std.specs.List.{list_any}
use Rattle.std.proofs.lemmas.Grind.{common_steps}
use Rattle.loop_regions.specs.Nest.{IsBackEdge}
use Rattle.loop_regions.specs.CodeNest.{row}
use Rattle.loop_regions.specs.declared.found.Regions.{Regions}
use Rattle.loop_regions.specs.Inner.FoundRegions.{nest_in, is_head}
use Rattle.loop_regions.specs.Inner.Heads.{nodes_of}
use Rattle.loop_regions.proofs.Has.{has_any, any_has}
use Rattle.loop_regions.proofs.SecondEntries.{head_is, is_the_head}
use Rattle.loop_regions.proofs.ranks.is_back.Goals as goal

back_edge : (r : Regions) (u v : ℕ)
    → IsTrue (list_any (λ q. is_head (nodes_of r.heads) v q) (row r.holders u)) ↔ IsBackEdge (nest_in r) u v
back_edge r u v = (
  λ t.
      let q = has_any (is_head (nodes_of r.heads) v) (row r.holders u) t in
      let h = head_is (nodes_of r.heads) v q.0 q.2 in
      (q.0, h.0, q.1, sym h.1),
  λ b. any_has (is_head (nodes_of r.heads) v) (row r.holders u) b.0 b.2
      (is_the_head (nodes_of r.heads) v b.0 b.1 (sym b.3)),
)

pub returns-then-is_head : goal.returns-then-is_head
returns-then-is_head c =
    let r = c.args.regions.now in
    subst (λ (b : Bool). IsTrue b ↔ IsBackEdge (nest_in r) c.args.u c.args.v)
    (grind (arith, common_steps)) (back_edge r c.args.u c.args.v)

pub returns : goal.returns
returns c =
    let r = c.args.regions.now in
    subst (λ (b : Bool). IsTrue b ↔ IsBackEdge (nest_in r) c.args.u c.args.v)
    (grind (arith, common_steps)) (back_edge r c.args.u c.args.v)
