use Rattle.dataflow.proofs.solver.fact_after.Goals as goal

pub returns : goal.returns
returns g c = c.transfer.ensures
