use Rattle.std.proofs.Common.{ℕ, ◌<◌, get_or}
use Rattle.crpd_base.specs.Sets.{AreWords}
use Rattle.crpd_base.specs.declared.data.NodeState.{NodeState}
use Rattle.cert_model.proofs.writing.state_sets.Given as goal

abbrev pub invariant-loop-state : goal.invariant-loop-state
invariant-loop-state l =
    (k : ℕ) (d : NodeState) → k < l.state-index → AreWords 8 (get_or l.states k d).useful
