-- Choices by the plain union delays.
use Rattle.std.proofs.Common.{ℕ, ◌<◌, ◌≤◌, List, arith}
use Rattle.crpd_base.specs.declared.data.TaskSet.{TaskSet}
use Rattle.crpd_base.specs.declared.data.Part.{Part}
use Rattle.crpd_base.specs.Tasks.{jitter_of, deadline_of}
use Rattle.response.specs.declared.choice.Choice.{Choice}
use Rattle.response.specs.Windows.{chosen_window, chosen_method, AreChoices}
use Rattle.response.proofs.WindowLaws.{smaller_is_window}
use Rattle.cert_build.proofs.Choices.{AllAgree}
use Rattle.delay_classic.specs.Demand.{classic_demand, classic_demands}
use Rattle.delay_classic.proofs.Same.{classic_same}

-- the demands agree, if the parts and the longest costs are the same
pub demands_agree : (set : TaskSet) → AllAgree set (classic_demands set)
demands_agree set parts others longest further P L window other i l same =
    classic_same set parts others longest further i l P L

pub jitters_in_deadlines : (set : TaskSet) (parts : ℕ → Part) (longest : ℕ → ℕ)
    (choices : List Choice) (i : ℕ) → AreChoices set (classic_demands set parts longest) choices i
    → (k : ℕ) → k < i → jitter_of set k ≤ deadline_of set k
jitters_in_deadlines set parts longest choices i before k l =
    let d = (smaller_is_window set (classic_demand set parts longest k) k (chosen_method choices k)
    (chosen_window choices k) (before k l)).in_deadline in
    omega (arith, d)
