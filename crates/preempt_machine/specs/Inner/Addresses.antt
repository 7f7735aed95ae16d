-- The table of decoded instructions by address.
use Rattle.std.specs.Prelude.{◌≡◌, ℕ, Bool, true, false, List, length, All, IfSome, IsTrue}
use Rattle.crpd_base.specs.declared.data.Platform.{Platform}
use Rattle.rv_decode.specs.declared.Ins.{Ins}
use Rattle.rv_decode.specs.Cost.{cost}
use Rattle.rv_decode.specs.Range.{HasFieldsInRange}
use Rattle.icache.specs.Cache.{block_of, set_of}
use Rattle.code_map.specs.Words.{Code}
use Rattle.flow_watch.specs.Quiet.{IsArrival}
use Rattle.preempt_machine.specs.Machine.{ins_at}
use Rattle.preempt_machine.specs.Running.{system_by}
use Rattle.preempt_machine.specs.declared.addresses.Costs.{Costs}
use Rattle.preempt_machine.specs.declared.addresses.AtAddress.{AtAddress}

-- the cycles, by whether the fetch missed and whether the next address is not the address plus four
abbrev pub decoded_cost : Costs → Bool → Bool → ℕ
decoded_cost c false false = c.hit
decoded_cost c false true = c.hit_taken
decoded_cost c true false = c.miss
decoded_cost c true true = c.miss_taken

-- the cycles are those of the instruction
abbrev pub AreCosts : Platform → Costs → Ins → Type 0
AreCosts platform c ins =
    (missed taken : Bool) → decoded_cost c missed taken ≡ cost platform ins missed taken

-- an address with its instruction, its block and cache set, whether the instruction stays in its
-- frame, and its cycles
pub record IsDecoded (platform : Platform) (code : Code) (d : AtAddress) : Type 0 where
  pub meaning : d.meaning ≡ ins_at (system_by platform code) d.address
  pub in_range : IfSome d.meaning HasFieldsInRange
  pub block : d.block ≡ block_of platform d.address
  pub set : d.set ≡ set_of platform d.block
  pub costs : IfSome d.meaning (AreCosts platform d.costs)
  pub stays : IsTrue d.stays → IfSome d.meaning IsArrival

-- a table of 4,096 places, each with an address and its decoded instruction
pub record AreDecodedAddresses (platform : Platform) (code : Code)
    (places : List AtAddress) : Type 0 where
  pub long : length places ≡ 4096
  pub each : All (IsDecoded platform code) places
