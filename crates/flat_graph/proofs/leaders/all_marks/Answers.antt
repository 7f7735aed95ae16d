use Rattle.std.proofs.Common.{◌≡◌, ℕ, ◌∙◌, ◌+◌, sym, ap, subst, arith, length, take, drop, ◌++◌}
use Rattle.std.proofs.Common.{List, Some, slice_get, get_or}
use Rattle.std.proofs.lemmas.List.{length-set, length-replicate}
use Rattle.std.proofs.lemmas.Option.{slice_get-get_or}
use Rattle.flat_graph.specs.Inner.Leaders.{AreEnds, AreMarked, mark_after_edges}
use Rattle.flat_graph.specs.declared.leaders.Mark.{Mark}
use Rattle.flat_graph.specs.declared.graph.NodeBody.{NodeBody}
use Rattle.flat_graph.specs.declared.graph.NextNodes.TheVariants.{Ends}
use Rattle.rv_decode.specs.declared.Ins.TheVariants.{Lui}
use Rattle.flat_graph.specs.declared.leaders.Mark.TheVariants.{Unmet, Leads}
use Rattle.flat_graph.proofs.Marks.{first_marked, all_more, whole}
use Rattle.flat_graph.proofs.leaders.all_marks.Goals as goal

pub loop-body-init : goal.loop-body-init
loop-body-init c =
    let marks = c.in_ok-marks.marks.items in
    let n = length c.args.bodies.now in
    let all = c.in_ok-marks.ensures.items_if_clones_equal (λ y e. e) in
    let size = ap length all ∙ length-replicate n Unmet in
    record {
      count = length-set marks c.args.first Leads ∙ size;
      marked = first_marked c.args.bodies.now c.args.first n marks all size c.requires.first;
    }

pub mark_ends-requires : goal.mark_ends-requires
mark_ends-requires c =
    let body : NodeBody = get_or c.args.bodies.now c.loop-body.body-index
    (record { ins = Lui 0 0; next = Ends }) in
    subst (λ n. AreEnds n body.next)
    (sym (ap length c.deref_mut.ensures.value ∙ c.loop-body.invariant.count))
    (c.requires.edges c.loop-body.body-index _ c.loop-body-test.true)

pub loop-body-preserved : goal.loop-body-preserved
loop-body-preserved c =
    let old : List Mark = c.loop-body.marks.items in
    let new : List Mark = c.mark_ends.new.marks in
    let same : length new ≡ length old = c.mark_ends.ensures.count
    ∙ ap length c.deref_mut.ensures.value in
    let w : take c.loop-body.marks.len (new ++ drop (length new) old) ≡ new =
    whole new old c.loop-body.marks.len same (omega (arith, c.loop-body.marks.ok)) in
    let body : NodeBody = get_or c.args.bodies.now c.loop-body.body-index
    (record { ins = Lui 0 0; next = Ends }) in
    let at : slice_get c.args.bodies.now c.loop-body.body-index ≡ Some body =
    slice_get-get_or c.args.bodies.now c.loop-body.body-index _ c.loop-body-test.true in
    let after = subst (λ l. (v : ℕ) (m n : Mark) → slice_get l v ≡ Some m → slice_get new v ≡ Some n
    → n ≡ mark_after_edges body.next v m) c.deref_mut.ensures.value c.mark_ends.ensures.marked in
    record {
      count = ap length w ∙ same ∙ c.loop-body.invariant.count;
      marked = subst (AreMarked c.args.bodies.now c.args.first (c.loop-body.body-index + 1)) (sym w)
          (all_more c.args.bodies.now c.args.first c.loop-body.body-index body old new
          c.loop-body.invariant.marked at
          (c.requires.edges c.loop-body.body-index _ c.loop-body-test.true) same after);
    }

pub returns-clause-marked : goal.returns-clause-marked
returns-clause-marked c =
    subst (λ k. AreMarked c.args.bodies.now c.args.first k c.loop-body.marks.items)
    (the c.loop-body.body-index (length c.args.bodies.now) (omega arith))
    c.loop-body.invariant.marked
  where
    the : (a b : ℕ) → a ≡ b → a ≡ b
    the a b e = e
