use Rattle.cert_build.proofs.leader_states.node_entries.Goals as goal

pub returns : goal.returns
returns c = record { states = c.in_ok-states.ensures; useful = c.in_ok-useful.ensures }
