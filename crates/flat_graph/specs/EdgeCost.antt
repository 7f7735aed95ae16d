-- The cost of an edge, given which nodes are counted as hits.
use Rattle.std.specs.Prelude.{ℕ, ◌+◌, Bool, true, false, not, ◌==◌}
use Rattle.crpd_base.specs.declared.data.Platform.{Platform}
use Rattle.rv_decode.specs.declared.Ins.{Ins}
use Rattle.rv_decode.specs.Cost.{cost}
use Rattle.rv_decode.specs.Flow.{Flow, Return, flow}

-- the address and the instruction of each node
pub record NodeCode : Type 0 where
  pub address : ℕ → ℕ
  pub ins : ℕ → Ins

-- the cost of the edge from u to v
abbrev pub edge_cost : Platform → NodeCode → (ℕ → Bool) → ℕ → ℕ → ℕ
edge_cost p l is_hit u v = cost p (l.ins u) (not (is_hit u)) (not (l.address v == l.address u + 4))

-- whether an instruction returns
abbrev pub is_return : Flow → Bool
is_return Return = true
is_return _ = false

-- the cost of the last instruction of a job: a return is a change of flow, an ECALL is not
abbrev pub end_cost : Platform → NodeCode → (ℕ → Bool) → ℕ → ℕ
end_cost p l is_hit u = cost p (l.ins u) (not (is_hit u)) (is_return (flow (l.address u) (l.ins u)))
