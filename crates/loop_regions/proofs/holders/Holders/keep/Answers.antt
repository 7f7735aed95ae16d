use Rattle.std.proofs.Common.{ap, ◌∙◌, rules, filter}
use Rattle.loop_regions.specs.CodeNest.{has}
use Rattle.loop_regions.proofs.Retained.{filter_from_turns}
use Rattle.loop_regions.proofs.holders.Holders.keep.Goals as goal

pub returns : goal.returns
returns c =
    filter_from_turns _ (has c.args.others.now) _ (λ x b g y called. search rules) _ _
    c.retain.ensures.filtered
    ∙ ap (filter (has c.args.others.now)) c.self.view_is
