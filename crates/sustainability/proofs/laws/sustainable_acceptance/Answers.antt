use Rattle.sustainability.proofs.Together.{acceptance_is_sustainable}
use Rattle.sustainability.proofs.laws.sustainable_acceptance.Goals as goal

pub returns : goal.returns
returns c =
    acceptance_is_sustainable c.acceptance_law.ensures.stays c.costs_law.ensures.windows
