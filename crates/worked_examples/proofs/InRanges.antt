-- The platform of the examples and their tasks are within the ranges of a task set.
use Rattle.std.proofs.Common.{◌≡◌, ℕ, ◌≤◌, ◌^◌, true, List, refl, arith}
use Rattle.crpd_base.specs.Names.{is_name, is_file}
use Rattle.crpd_base.specs.Ranges.{IsPlatform, IsTaskSpec}
use Rattle.worked_examples.specs.StraightCode.{named_task}
use Rattle.worked_examples.specs.TwoWords.{platform}

pub is_platform : (sets : ℕ) → 1 ≤ sets → sets ≤ 512 → IsPlatform (record platform { sets = sets })
is_platform sets some few =
    record {
      line = (omega arith, omega arith);
      line_size = refl;
      sets = (some, few);
      hit = (omega arith, omega arith);
      miss = omega arith;
      memory = omega arith;
      taken = omega arith;
      switch = omega arith;
      mul = omega arith;
      div = omega arith;
    }

pub is_task : (name : List ℕ) (period : ℕ) → is_name name ≡ true → is_file name ≡ true → 1 ≤ period
    → period ≤ 2 ^ 40 → IsTaskSpec (named_task name period)
is_task name period n f some most =
    record {
      name = n;
      file = f;
      period = (some, most);
      deadline = (some, omega arith);
      jitter = omega arith;
      few_loops = omega arith;
      loops = λ i d l. absurd (omega (arith, l));
    }
