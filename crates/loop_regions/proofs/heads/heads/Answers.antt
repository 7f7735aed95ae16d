use Rattle.std.proofs.Common.{◌≡◌, ◌∙◌, sym, ap, subst, ◌+◌, Vec, Global, List, get_or, length}
use Rattle.std.proofs.Common.{arith, Some, None}
use Rattle.std.proofs.lemmas.Option.{slice_get_within, get_or_from_slice_get}
use Rattle.crpd_base.specs.declared.data.LoopAt.{LoopAt}
use Rattle.flat_graph.specs.CodeGraph.{places_of}
use Rattle.loop_regions.specs.Inner.Heads.{IsLoopAt, AreHeads}
use Rattle.loop_regions.specs.declared.heads.Head.{Head}
use Rattle.loop_regions.proofs.HeadsFound.{no_head, no_heads, one_head}
use Rattle.loop_regions.proofs.heads.heads.Goals as goal
use Rattle.loop_regions.proofs.heads.heads.Goals.{in-Some+in_ok-push, in_default}

pub address-requires : goal.address-requires
address-requires c =
    omega (arith, c.len-node-end.ensures, c.loop-node-test.true, c.loop-node.auto.node-end)

pub bounds-loops-stated : goal.bounds-loops-stated
bounds-loops-stated c =
    slice_get_within c.args.loops.now c.in-Some.stated c.in-Some.ensures.0 c.in-Some.ensures.1

pub loop-node-preserved : goal.loop-node-preserved
loop-node-preserved c =
    let p = places_of c.args.graph.now in
    let loops = c.args.loops.now in
    let k = c.loop-node.node in
    let goes = λ (xs : List Head). AreHeads p loops (k + 1) xs in
    elim c.match-loop_at.branch [
      | in-Some+in_ok-push w ↦
          subst goes
          (sym (ap (λ (v : Vec Head Global). v.items) w.heads-is ∙ w.in_ok-push.ensures.items))
          (let some = subst (λ a. IsLoopAt loops a (Some w.in-Some.stated)) c.address.ensures
          w.in-Some.ensures in
          one_head p loops k w.in-Some.stated (get_or loops w.in-Some.stated
          w.index-loops-stated.result).bound c.loop-node.heads.items
          c.loop-node.invariant (
            some.0,
            some.1,
            some.2,
            ap (λ (l : LoopAt). l.bound) (get_or_from_slice_get loops w.in-Some.stated some.0
                w.index-loops-stated.result some.1),
          ))
      | in_default w ↦
          subst goes (sym (ap (λ (v : Vec Head Global). v.items) w.heads-is))
          (no_head p loops k c.loop-node.heads.items c.loop-node.invariant
          (subst (λ a. IsLoopAt loops a None) c.address.ensures w.in_default.ensures))
    ]

pub loop-node-init : goal.loop-node-init
loop-node-init c =
    rw c.new-heads.ensures.items (no_heads (places_of c.args.graph.now) c.args.loops.now)

pub returns : goal.returns
returns c =
    let end : c.loop-node.node ≡ length c.args.graph.now.nodes =
    omega (arith, c.len-node-end.ensures, c.loop-node-test.false, c.loop-node.auto.node-end) in
    subst (λ n. AreHeads (places_of c.args.graph.now) c.args.loops.now n c.loop-node.heads.items)
    end c.loop-node.invariant
