-- Inner definitions: the sets of tasks and nodes are words of sets of numbers below 512.
use Rattle.std.specs.Prelude.{All}
use Rattle.crpd_base.specs.Sets.{AreWords}
use Rattle.crpd_base.specs.declared.data.NodeState.{NodeState}
use Rattle.crpd_base.specs.declared.data.TaskPart.{TaskPart}

-- the sets of a task are sets of numbers below 512
pub record HasSetWords (t : TaskPart) : Type 0 where
  pub evicting : AreWords 8 t.part.evicting
  pub useful : AreWords 8 t.part.useful
  pub states : All (λ (s : NodeState). AreWords 8 s.useful) t.states
