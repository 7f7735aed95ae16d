-- The input generated from a number.
use Rattle.std.specs.Prelude.{ℕ, [], map}
use Rattle.std.specs.List.{range_with_len}
use Rattle.crpd_base.specs.declared.data.TaskSet.{TaskSet}
use Rattle.gen_tasks.specs.declared.Generated.{Generated}
use Rattle.gen_tasks.specs.Draws.{state_after}
use Rattle.gen_tasks.specs.Jobs.{jobs}
use Rattle.gen_tasks.specs.Programs.{generator_platform, generated_task_at, generated_file_at}

-- sixteen tasks
unfoldable pub generated_set : ℕ → TaskSet
generated_set n = record {
  platform = generator_platform;
  tasks = map (generated_task_at n) (range_with_len 0 16);
}

-- the tasks and their files, which use the first draws, and a script of 500,000 cycles from an
-- empty cache, whose jobs use the draws after them
unfoldable pub made : ℕ → Generated
made n = record {
  set = generated_set n;
  files = map (generated_file_at n) (range_with_len 0 16);
  script = record { cycles = 500000; cache = []; jobs = jobs (state_after n 64) (generated_set n) };
}
