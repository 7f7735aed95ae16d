-- The range of a platform's costs as code stores them.
use Rattle.std.specs.Prelude.{◌<◌, ◌^◌}
use Rattle.crpd_base.specs.declared.data.Platform.{Platform}

-- the costs of a platform are numbers of 32 bits
pub record HasWordCosts (p : Platform) : Type 0 where
  pub hit : p.hit < 2 ^ 32
  pub miss : p.miss < 2 ^ 32
  pub memory : p.memory < 2 ^ 32
  pub taken : p.taken < 2 ^ 32
  pub mul : p.mul < 2 ^ 32
  pub div : p.div < 2 ^ 32
