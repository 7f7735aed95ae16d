-- Small sets of tasks and parts, to compute with.
use Rattle.std.proofs.Common.{ℕ, zero, suc, [], ◌∷◌, None}
use Rattle.crpd_base.specs.declared.data.Platform.{Platform}
use Rattle.crpd_base.specs.declared.data.Place.TheVariants.{Number}
use Rattle.crpd_base.specs.declared.data.Switching.{Switching}
use Rattle.crpd_base.specs.declared.data.Switching.TheVariants.{Cycle}
use Rattle.crpd_base.specs.declared.data.TaskSpec.{TaskSpec}
use Rattle.crpd_base.specs.declared.data.TaskSet.{TaskSet}
use Rattle.crpd_base.specs.declared.data.Part.{Part}

abbrev pub platform : Switching → Platform
platform mode = record {
  line = 16;
  sets = 8;
  hit = 1;
  miss = 10;
  memory = 3;
  taken = 2;
  switch = 5;
  mul = 0;
  div = 0;
  switching = mode;
}

abbrev pub task : ℕ → ℕ → TaskSpec
task period jitter = record {
  name = [];
  file = [];
  entry = None;
  period = period;
  deadline = period;
  jitter = jitter;
  stack = Number 0;
  global = Number 0;
  loops = [];
}

-- the highest task of three has this period, the others 10,000
abbrev pub three : ℕ → TaskSet
three period = record {
  platform = platform Cycle;
  tasks = task period 0 ∷ task 10000 0 ∷ task 10000 0 ∷ [];
}

-- a part, its sets as words of bits: 14 is the sets 1, 2 and 3
abbrev pub part : ℕ → ℕ → ℕ → Part
part bound evicts useful = record { bound = bound; evicting = evicts ∷ []; useful = useful ∷ [] }

abbrev pub parts : Part → Part → Part → ℕ → Part
parts a b c zero = a
parts a b c (suc zero) = b
parts a b c (suc (suc k)) = c

-- evicts 1 2 3 and 5; the lowest task finds 1 2 3 useful
abbrev pub apart : ℕ → Part
apart = parts (part 50 14 0) (part 30 32 0) (part 30 0 14)

-- evicts 1 2 3 4 and 3 4; useful 1 2 to the middle task, and 3 4 to the lowest
abbrev pub crossed : ℕ → Part
crossed = parts (part 50 30 0) (part 30 24 6) (part 30 0 24)

-- the middle task evicts 1 2 instead of 3 4
abbrev pub aside : ℕ → Part
aside = parts (part 50 30 0) (part 30 6 6) (part 30 24 24)
