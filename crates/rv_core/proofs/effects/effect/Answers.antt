use Rattle.rv_core.proofs.effects.effect.Goals as goal

pub returns-clause-next : goal.returns-clause-next
returns-clause-next c = c.next_pc-next.ensures
