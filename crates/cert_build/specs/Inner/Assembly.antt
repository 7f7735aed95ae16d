-- The parts of a certificate, assembled task by task: definitions that only contracts inside the
-- crate cite.
use Rattle.std.specs.Prelude.{◌≡◌, ℕ, ◌*◌, ◌<◌, ◌≤◌, ◌^◌, List, length, sum_by}
use Rattle.crpd_base.specs.Limits.{most_entries}
use Rattle.crpd_base.specs.declared.data.TaskSet.{TaskSet}
use Rattle.loop_regions.specs.TaskGraph.{TaskGraph}
use Rattle.cert_build.specs.Analysis.{IsAnalysis, KeepsRanges}
use Rattle.cert_build.specs.declared.one_task.Analysis.{Analysis}
use Rattle.cert_build.specs.Assembly.{analysis_at, entries_of}

-- the analyses of the first n tasks
pub record HaveAnalyses (set : TaskSet) (graphs : ℕ → TaskGraph) (n : ℕ)
    (analyses : List Analysis) : Type 0 where
  pub tasks : length analyses ≡ n
  pub each : (k : ℕ) → k < n → IsAnalysis set.platform (graphs k) (analysis_at analyses k)
  pub ranges : (k : ℕ) → k < n → KeepsRanges (analysis_at analyses k)

-- the number of state entries found in them; the analyses are stored while these are not too many
pub record CountsEntries (set : TaskSet) (graphs : ℕ → TaskGraph) (n found : ℕ)
    (kept : List Analysis) : Type 0 where
  pub all : List Analysis
  pub analysed : HaveAnalyses set graphs n all
  pub entries : found ≡ sum_by entries_of all
  pub same : found ≤ most_entries → kept ≡ all
  pub small : found ≤ 2 ^ 24 * n
