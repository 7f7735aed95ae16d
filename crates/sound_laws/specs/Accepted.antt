-- What the laws on an accepted certificate share.
use Rattle.std.specs.Prelude.{ℕ, ◌<◌, length}
use Rattle.crpd_base.specs.declared.data.TaskSet.{TaskSet}
use Rattle.crpd_base.specs.declared.data.Certificate.{Certificate}
use Rattle.crpd_base.specs.Ranges.{IsTaskSet}
use Rattle.rv_decode.specs.Flow.{IsCodeMap}
use Rattle.code_map.specs.Words.{Code, word_at}
use Rattle.loop_regions.specs.TaskGraph.{TaskGraph}
use Rattle.cert_check.specs.JudgeInput.{IsGraphOf}
use Rattle.cert_check.specs.Verdict.{IsYes}
use Rattle.preempt_machine.specs.Machine.{System, plan_of}
use Rattle.preempt_machine.specs.Safe.{system_of}
use Rattle.sound_laws.specs.Walks.{HasTaskRanges, IsCodeOf}

-- a system that runs a task set on its code, and a certificate of the set that the checker accepts
pub record IsAccepted (sys : System) (set : TaskSet) (graphs : ℕ → TaskGraph)
    (c : Certificate) : Type 0 where
  -- the numbers of the set are in their ranges
  pub in_range : HasTaskRanges set
  -- the system has the set's platform and code, of which these are the tasks' graphs
  pub code : IsCodeOf sys set graphs
  -- all clauses of the certificate hold
  pub says : IsYes set graphs c

-- a task set with the code of its files, and a certificate of the set that the checker accepts
pub record IsChecked (set : TaskSet) (code : Code) (graphs : ℕ → TaskGraph)
    (c : Certificate) : Type 0 where
  -- the set is in its ranges
  pub ranges : IsTaskSet set
  -- the words of the code are words at the addresses of code
  pub words : IsCodeMap (word_at code.images)
  -- these are the tasks' graphs, and none is refused
  pub graphs_of : (k : ℕ) → k < length set.tasks
      → IsGraphOf (word_at code.images) (plan_of (system_of set code) k) (graphs k)
  -- all clauses of the certificate hold
  pub says : IsYes set graphs c
