use Rattle.std.proofs.Common.{sym, subst}
use Rattle.loop_regions.specs.Inner.FoundRegions.{nest_in, AreAround}
use Rattle.loop_regions.proofs.found_nest.find_nesting.Goals as goal

pub accept-requires-clause-around : goal.accept-requires-clause-around
accept-requires-clause-around c =
    subst (AreAround (nest_in c.args.found.now)) (sym c.deref.ensures.value)
    c.in_ok-around.ensures
