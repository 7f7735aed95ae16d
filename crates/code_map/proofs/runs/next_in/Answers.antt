use Rattle.std.proofs.Common.{ap, is_some, not, refl, sym, ◌∙◌}
use Rattle.code_map.proofs.NextWord.{none_there}
use Rattle.code_map.proofs.runs.next_in.Goals as goal

pub returns-then-is_none-clause-is : goal.returns-then-is_none-clause-is
returns-then-is_none-clause-is c =
    none_there c.args.images.now c.args.runs.now c.requires.apart c.args.place c.args.from
    c.max-low.result c.requires.within c.max-low.ensures _ refl
    (ap is_some (sym c.word.ensures) ∙ (c.is_none.ensures ∙ ap not c.if-is_none.true))
