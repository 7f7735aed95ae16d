use Rattle.std.proofs.Common.{sym, ◌∙◌}
use Rattle.elf_reader.proofs.Ranges.{last_met, none_met, range_is}
use Rattle.elf_reader.proofs.overlap.is_met.Goals as goal

pub returns-in-Some : goal.returns-in-Some
returns-in-Some c =
    sym (last_met c.args.from c.args.to c.requires.some c.args.ranges.now.entries _ _
    c.requires.apart (sym (range_is c.args.to c.args.ranges.now.entries)
    ∙ (sym (c.range.ensures.between tt) ∙ c.in-Some.ensures.steps)))

pub returns-in-None : goal.returns-in-None
returns-in-None c =
    sym (none_met c.args.from c.args.to c.args.ranges.now.entries
    (sym (range_is c.args.to c.args.ranges.now.entries)
    ∙ (sym (c.range.ensures.between tt) ∙ c.in-None.ensures.steps.0)))
