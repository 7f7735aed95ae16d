-- Two tasks, of which the higher one gets a longer period or is left away.
use Rattle.std.specs.Prelude.{ℕ, zero, suc, [], ◌∷◌, None}
use Rattle.crpd_base.specs.declared.data.Method.TheVariants.{Ucb}
use Rattle.crpd_base.specs.declared.data.Part.{Part}
use Rattle.crpd_base.specs.declared.data.Place.TheVariants.{Number}
use Rattle.crpd_base.specs.declared.data.Platform.{Platform}
use Rattle.crpd_base.specs.declared.data.Switching.TheVariants.{Cycle}
use Rattle.crpd_base.specs.declared.data.TaskSpec.{TaskSpec}
use Rattle.response.specs.declared.choice.Choice.{Choice}
use Rattle.sustainability.specs.Workload.{Workload, IsNoMoreDemanding}
use Rattle.sustainability.specs.Laws.{AreWindows}

-- a miss costs one cycle more, and a switch nothing
abbrev pub platform : Platform
platform = record {
  line = 16;
  sets = 8;
  hit = 1;
  miss = 1;
  memory = 0;
  taken = 0;
  switch = 0;
  mul = 0;
  div = 0;
  switching = Cycle;
}

-- a task with this period, its deadline
abbrev pub task : ℕ → TaskSpec
task period = record {
  name = [];
  file = [];
  entry = None;
  period = period;
  deadline = period;
  jitter = 0;
  stack = Number 0;
  global = Number 0;
  loops = [];
}

-- the higher task takes 2 cycles, the lower one 10; both evict cache set 0, which is useful to the
-- lower one
abbrev pub parts : ℕ → Part
parts zero = record { bound = 2; evicting = 1 ∷ []; useful = [] }
parts (suc k) = record { bound = 10; evicting = 1 ∷ []; useful = 1 ∷ [] }

-- both tasks; the higher one has this period, the lower one 100 cycles
abbrev pub both : ℕ → Workload
both period = record {
  set = record { platform = platform; tasks = task period ∷ task 100 ∷ [] };
  parts = parts;
  longest = λ k. 1;
}

-- the lower one alone
abbrev pub lower : Workload
lower = record {
  set = record { platform = platform; tasks = task 100 ∷ [] };
  parts = λ k. parts (suc k);
  longest = λ k. 1;
}

-- a window by the UCB-union delay
abbrev pub by_ucb : ℕ → Choice
by_ucb window = record { window = window; method = Ucb }

-- the lower task's window is 16 cycles if the higher one has a period of 10, and 13 with one of 20;
-- alone it is 10
pub record ShorterWindows : Type 0 where
  pub often : AreWindows (both 10) (by_ucb 2 ∷ by_ucb 16 ∷ [])
  pub longer_period : IsNoMoreDemanding (λ k. k) (both 20) (both 10)
  pub seldom : AreWindows (both 20) (by_ucb 2 ∷ by_ucb 13 ∷ [])
  pub left_away : IsNoMoreDemanding suc lower (both 10)
  pub alone : AreWindows lower (by_ucb 10 ∷ [])
