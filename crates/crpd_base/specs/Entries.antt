-- The state entries of a certificate.
use Rattle.std.specs.Prelude.{ℕ, ◌+◌, List, length, sum_by}
use Rattle.crpd_base.specs.Limits.{most_sets}
use Rattle.crpd_base.specs.Sets.{members_below}
use Rattle.crpd_base.specs.declared.data.AnalysedTask.{AnalysedTask}
use Rattle.crpd_base.specs.declared.data.Analysis.{Analysis}
use Rattle.crpd_base.specs.declared.data.NodeState.{NodeState}
use Rattle.crpd_base.specs.declared.data.TaskPart.{TaskPart}

-- how many numbers a set of cache sets has
unfoldable pub set_size : List ℕ → ℕ
set_size words = members_below words most_sets

-- the sure pairs and the useful sets of a node
abbrev pub state_entries : NodeState → ℕ
state_entries s = length s.sure + set_size s.useful

-- the state entries of a task's nodes
abbrev pub task_entries : TaskPart → ℕ
task_entries t = sum_by state_entries t.states

-- the state entries of a certificate
abbrev pub entries : List TaskPart → ℕ
entries tasks = sum_by task_entries tasks

-- the state entries of a task of an analysis
abbrev pub analysed_entries : AnalysedTask → ℕ
analysed_entries t = sum_by state_entries t.states

-- the state entries of an analysis
abbrev pub analysis_entries : Analysis → ℕ
analysis_entries a = sum_by analysed_entries a.tasks

-- the state entries of a refined certificate: those of all analyses
abbrev pub refined_entries : List Analysis → ℕ
refined_entries analyses = sum_by analysis_entries analyses
