use Rattle.std.proofs.Common.{arith}
use Rattle.set_reader.specs.Kinds.{place_named}
use Rattle.set_reader.proofs.places.place_named.Goals as goal

pub returns-in-None : goal.returns-in-None
unfolding place_named
returns-in-None c = grind arith

pub returns-in-None-offset : goal.returns-in-None-offset
unfolding place_named
returns-in-None-offset c = grind arith

pub returns-in-Some-offset : goal.returns-in-Some-offset
unfolding place_named
returns-in-Some-offset c = grind arith
