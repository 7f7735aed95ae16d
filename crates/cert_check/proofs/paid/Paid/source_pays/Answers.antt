use Rattle.cert_check.proofs.paid.Paid.source_pays.Goals as goal

pub returns : goal.returns
returns c = rw (c.edge_cost.ensures.is, c.at_node.ensures.is) at c.at_most.ensures
