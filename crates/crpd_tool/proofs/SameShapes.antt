-- The shapes of one set that are read twice differ in how regions are listed alone.
use Rattle.std.proofs.Common.{◌≡◌, List, Result, Ok, sym, ap, ◌∙◌, subst}
use Rattle.crpd_base.proofs.Results.{ok_is}
use Rattle.cert_check.proofs.Alike.{AllAlike}
use Rattle.flat_graph.specs.CodeGraph.{CodeGraph}
use Rattle.loop_regions.specs.CodeNest.{CodeNest}
use Rattle.task_shapes.specs.Graphs.{RegionsOf}
use Rattle.task_shapes.specs.Inputs.{SetWithCode}
use Rattle.task_shapes.specs.Shapes.{SetWithShapes}
use Rattle.task_shapes.proofs.OneShape.{AreShapes, graphs_same, regions_same, shapes_parts}
use Rattle.crpd_input.specs.declared.halt.Halt.{Halt}
use Rattle.crpd_tool.proofs.OneMade.{with_nests}
use Rattle.crpd_tool.proofs.ReadSet.{IsReadFrom}

-- a set with its code, graphs and regions
abbrev shaped_set : SetWithCode → List CodeGraph → List CodeNest → SetWithShapes
shaped_set input graphs nests = record { input = input; graphs = graphs; nests = nests }

-- the second shapes are the first ones with other regions, which are alike
pub record AreSameShapes (x y : SetWithShapes) : Type 0 where
  pub is : y ≡ with_nests x y.nests
  pub alike : AllAlike x.input.set x.nests y.nests

pub same_shapes : (given : Result SetWithCode Halt) (x y : SetWithShapes) → IsReadFrom given x
    → IsReadFrom given y → AreSameShapes x y
same_shapes given x y p q =
    let input : y.input ≡ x.input = ok_is y.input x.input (sym q.input_is ∙ p.input_is) in
    let one = shapes_parts x.input x p.shapes_are in
    let two = subst (λ i. AreShapes i y) input (shapes_parts y.input y q.shapes_are) in
    let graphs : y.graphs ≡ x.graphs = graphs_same x.input y.graphs x.graphs two.graphs one.graphs
    in
    let regions = subst (λ gs. RegionsOf x.input gs (Ok y.nests)) graphs two.regions in
    record {
      is =
          ap (λ i. shaped_set i y.graphs y.nests) input
          ∙ ap (λ gs. shaped_set x.input gs y.nests) graphs;
      alike = regions_same x.input x.graphs x.nests y.nests one.regions regions;
    }
