-- What an observer receives of a run.
use Rattle.std.specs.Prelude.{◌≡◌, ◌↔◌, not, Some, IsTrue}
use Rattle.icache.specs.Cache.{block_of, is_hit, set_of}
use Rattle.preempt_machine.specs.declared.observer.Observation.{Observation}
use Rattle.preempt_machine.specs.Safe.{IsKept}
use Rattle.preempt_machine.specs.Step.{Start, fetch_at, state}

-- the fetch of a step of the run: its job and address, its cache set, whether it misses, and
-- whether no watch is broken before the step
pub record IsObservation (s : Start) (o : Observation) : Type 0 where
  pub fetch : fetch_at s o.time ≡ Some (record { job = o.place; address = o.address })
  pub set : o.set ≡ set_of s.system.platform (block_of s.system.platform o.address)
  pub missed : o.missed ≡ not (is_hit s.system.platform (state s o.time).cache
      (block_of s.system.platform o.address))
  pub kept : IsTrue o.kept ↔ IsKept (state s o.time)
