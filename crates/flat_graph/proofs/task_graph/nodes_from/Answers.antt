use Rattle.std.proofs.Common.{◌∙◌, sym, ap, subst, arith, length, map, All}
use Rattle.std.proofs.lemmas.List.{length-map}
use Rattle.std.proofs.lemmas.Option.{slice_get_within}
use Rattle.code_map.specs.Words.{word_at}
use Rattle.flat_graph.specs.Inner.GraphParts.{AreStoredNodes}
use Rattle.flat_graph.specs.Inner.Leaders.{AreEnds, AreMarked, is_leading}
use Rattle.flat_graph.specs.Inner.Ordered.{nodes_of}
use Rattle.flat_graph.specs.Inner.Points.{points_of}
use Rattle.flat_graph.specs.declared.points.FoundPoint.{FoundPoint}
use Rattle.flat_graph.proofs.Ends.{all_ends}
use Rattle.flat_graph.proofs.Marks.{all_met}
use Rattle.flat_graph.proofs.Placed.{nodes_count}
use Rattle.flat_graph.proofs.Together.{AreParts, code_graph, is_kept}
use Rattle.flat_graph.proofs.task_graph.nodes_from.Goals as goal

pub all_marks-requires-clause-first : goal.all_marks-requires-clause-first
all_marks-requires-clause-first c =
    omega (
      arith,
      slice_get_within (nodes_of c.args.ordered.now) c.args.first _ c.requires.first,
      nodes_count c.args.ordered.now,
      ap length c.deref.ensures.value,
      c.in_ok-bodies.ensures.count,
    )

pub all_marks-requires-clause-edges : goal.all_marks-requires-clause-edges
all_marks-requires-clause-edges c =
    subst (λ l. All (λ x. AreEnds (length l) x.next) l) (sym c.deref.ensures.value)
    (all_ends (word_at c.args.code.now.images) c.args.entry (nodes_of c.args.ordered.now)
    c.in_ok-bodies.bodies.items c.in_ok-bodies.ensures.bodies
    (c.in_ok-bodies.ensures.count ∙ sym (nodes_count c.args.ordered.now)))

pub returns-clause-kept : goal.returns-clause-kept
returns-clause-kept c =
    let words = word_at c.args.code.now.images in
    let lists = c.args.ordered.now.lists.items in
    let points = points_of c.args.ordered.now.points.items in
    let count = length-map c.args.ordered.now.points.items (λ (p : FoundPoint). p.point) in
    let bodies = c.in_ok-bodies.bodies.items in
    let marks = c.in_ok-marks.marks.items in
    let leaders = map is_leading marks in
    let nodes = c.in_ok-nodes.nodes.items in
    let parts : AreParts words c.args.entry points bodies c.args.first leaders lists nodes =
    record {
      word_places = λ a w e. (c.words_law.ensures a w e).0;
      numbering = c.requires.ordered.numbering;
      few = omega (arith, c.requires.few, count);
      body_of = c.in_ok-bodies.ensures.bodies;
      body_count = c.in_ok-bodies.ensures.count ∙ sym count;
      first_at = c.requires.first;
      leader_of =
          all_met bodies c.args.first marks
          (subst (λ l. AreMarked l c.args.first (length l) marks) c.deref.ensures.value
          c.in_ok-marks.ensures.marked);
      leader_count =
          length-map marks is_leading ∙ c.in_ok-marks.ensures.count
          ∙ ap length c.deref.ensures.value;
      context_of = c.requires.ordered.inside;
      nodes_of =
          subst (λ l. AreStoredNodes points l leaders nodes) c.deref-2.ensures.value
          (subst (λ b. AreStoredNodes points c.deref-2.result.now (map is_leading b) nodes)
          c.deref-3.ensures.value
          c.in_ok-nodes.ensures.stored_nodes);
      node_count = c.in_ok-nodes.ensures.count ∙ sym count;
    } in
    record {
      kept = is_kept words c.args.entry points bodies c.args.first leaders lists nodes parts;
      of_code = code_graph words c.args.entry points bodies c.args.first leaders lists nodes parts;
    }
