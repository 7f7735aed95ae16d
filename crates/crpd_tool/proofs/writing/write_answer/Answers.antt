use Rattle.std.proofs.Common.{◌≢◌, ◌∙◌, ℕ, List, rules, subst, sym, Option}
use Rattle.crpd_tool.specs.Inner.Output.{Finished}
use Rattle.crpd_tool.specs.Output.{IsWhole}
use Rattle.crpd_tool.specs.declared.status.Status.{Status}
use Rattle.crpd_tool.specs.declared.status.Status.TheVariants.{BadWords}
use Rattle.crpd_tool.proofs.Finish.{finished-as}
use Rattle.crpd_tool.proofs.writing.write_answer.Goals as goal

-- writing another status does not end with BadWords
of_wanted : {old new : Option (List ℕ)} {before now : ℕ} {text : List ℕ} {wanted s : Status}
    → Finished old new before now text wanted s → wanted ≢ BadWords → s ≢ BadWords
of_wanted f other is = other (sym (f.whole (subst IsWhole (sym is) tt)).0 ∙ is)

pub returns-clause-finished : goal.returns-clause-finished
returns-clause-finished g c = finished-as c.finish.ensures.finished (search rules) (search rules)

pub returns-clause-written : goal.returns-clause-written
returns-clause-written g c = search rules

pub returns-clause-of_words : goal.returns-clause-of_words
returns-clause-of_words g c = of_wanted c.finish.ensures.finished (search rules)

pub returns-clause-grows : goal.returns-clause-grows
returns-clause-grows g c = c.finish.ensures.grows
