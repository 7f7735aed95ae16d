use Rattle.std.proofs.lemmas.Bool.{both_ways}
use Rattle.loop_regions.proofs.nest.Nest.edge_kind.Goals as goal

pub returns-in-Some : goal.returns-in-Some
returns-in-Some c = (
  λ b. both_ways c.is_back.result c.if-is_back.false (c.is_back.ensures.1 b),
  c.in-Some.ensures,
)
