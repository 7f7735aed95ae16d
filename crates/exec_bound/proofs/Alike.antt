-- Alike nests have the same least potentials.
use Rattle.flat_graph.specs.Graph.{Graph}
use Rattle.loop_regions.specs.Nest.{Nest}
use Rattle.loop_regions.specs.Potentials.{Costs, Potentials}
use Rattle.loop_regions.proofs.Alike.{Alike, turned, there, item_too, meets_too}
use Rattle.exec_bound.specs.Costs.{IsTooLarge}
use Rattle.exec_bound.specs.Least.{AreLeastPotentials}

module _ (g : Graph) (n m : Nest) (A : Alike n m) (c : Costs) where
  abbrev B : Alike m n
  B = turned n m A

  pub least_too : (q : Potentials) → AreLeastPotentials g n c q → AreLeastPotentials g m c q
  least_too q e = record {
    meets = meets_too g n m A c q e.meets;
    nodes = λ p u meets lt. e.nodes p u (meets_too g m n B c p meets) lt;
    loops = λ p r meets lt. e.loops p r (meets_too g m n B c p meets) (there m n B r lt);
  }

  pub large_too : IsTooLarge g n c → IsTooLarge g m c
  large_too e = (e.0, e.1, least_too e.0 e.2, item_too n m A g.first e.1 e.3, e.4)
