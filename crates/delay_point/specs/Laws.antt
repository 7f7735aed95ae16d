-- The laws of the delay by program point and of refined windows.
use Rattle.std.specs.Prelude.{◌≡◌, ◌≢◌, ℕ, ◌+◌, ◌<◌, ◌≤◌, Bool, true, List, length, Result, Ok, Err}
use Rattle.crpd_base.specs.declared.data.Certificate.{Certificate}
use Rattle.crpd_base.specs.declared.data.Part.{Part}
use Rattle.crpd_base.specs.declared.data.TaskSet.{TaskSet}
use Rattle.crpd_base.specs.declared.data.Method.TheVariants.{Ecb}
use Rattle.crpd_base.specs.Ranges.{IsTaskSet}
use Rattle.crpd_base.specs.Tasks.{HasTimes}
use Rattle.rv_decode.specs.Flow.{IsCodeMap}
use Rattle.code_map.specs.Words.{Code, word_at}
use Rattle.delay_count.specs.Gamma.{gamma_ecb}
use Rattle.flat_graph.specs.Graph.{IsGraph}
use Rattle.loop_regions.specs.Nest.{IsNested}
use Rattle.loop_regions.specs.TaskGraph.{TaskGraph}
use Rattle.must_cache.specs.Prepaid.{Prepaid}
use Rattle.walk_parts.specs.Parts.{WalkPart, IsSoundPart}
use Rattle.persistent_blocks.specs.PersistentPart.{IsPersistentPart}
use Rattle.cert_check.specs.JudgeInput.{IsGraphOf, window_at as certified_window}
use Rattle.preempt_machine.specs.Machine.{plan_of}
use Rattle.preempt_machine.specs.Safe.{system_of, IsSafeWith, IsRunOf, IsKept, IsAnsweredBy}
use Rattle.preempt_machine.specs.Step.{Start, is_open, state}
use Rattle.run_account.specs.Fetches.{job_after}
use Rattle.run_account.specs.Nodes.{job_task}
use Rattle.sound_laws.specs.Headline.{IsUndisturbed}
use Rattle.sound_laws.specs.Ledgers.{CoversLedgers}
use Rattle.sound_laws.specs.PartLaws.{HoldsPrepaid}
use Rattle.sound_laws.specs.Walks.{HasTaskRanges, IsCodeOf, IsFollowed}
use Rattle.cert_build.specs.Certify.{AreBestParts, part_in}
use Rattle.cert_build.specs.Best.{IsBest}
use Rattle.crpd_base.specs.declared.data.RefinedTask.{RefinedTask}
use Rattle.delay_point.specs.Gamma.{SetsAtNodes, AreUsefulSets, point_shared, gamma_point}
use Rattle.delay_point.specs.Chosen.{TaskParts, AreChosen, RefinedParts, AreRefinedParts, parts_by}
use Rattle.delay_point.specs.Refined.{AreRefinedBy, AreRefined, window_at, method_at, responses}
use Rattle.delay_point.specs.PartWindows.{FitByParts}
use Rattle.delay_point.specs.RefineErrors.{IsRefineError}
use Rattle.delay_point.specs.declared.error.RefineError.{RefineError}
use Rattle.delay_point.specs.declared.error.RefineError.TheVariants.{Memory}
use Rattle.cert_build.specs.AnalysisEnds.{IsAnalysable}

-- a certificate with the parts of the analysis and the windows of a list, with any methods
pub record HasRefined (set : TaskSet) (graphs : ℕ → TaskGraph) (c : Certificate)
    (useful : SetsAtNodes) (tasks : List RefinedTask) : Type 0 where
  pub best : AreBestParts set graphs c.tasks
  pub useful_sets : AreUsefulSets set graphs useful
  pub chosen : TaskParts
  pub are_chosen : AreChosen set graphs (record { part = part_in c.tasks; useful = useful }) chosen
  pub by : AreRefinedBy set graphs
      (record { analysed = c.tasks; useful = useful; chosen = chosen }) tasks
  pub windows : (k : ℕ) → certified_window c k ≡ window_at tasks k

-- the delay by program point, with these windows, covers the reloads of the ledger, charged to
-- their preemptors
abbrev pub PointCovers : Type 0
PointCovers =
    (set : TaskSet) (graphs : ℕ → TaskGraph) (c : Certificate) (useful : SetsAtNodes)
    (tasks : List RefinedTask) → HasRefined set graphs c useful tasks
    → ((k : ℕ) → k < length set.tasks → IsGraph (graphs k).graph) →
    CoversLedgers set graphs c Ecb
    (λ i. gamma_point set (point_shared graphs useful (part_in c.tasks)) (window_at tasks)
    (window_at tasks i) i)

-- it is at most the ECB-union multiset delay with the same windows
abbrev pub PointWithinEcb : Type 0
PointWithinEcb =
    (set : TaskSet) (graphs : ℕ → TaskGraph) (c : Certificate) (useful : SetsAtNodes)
    (window : ℕ → ℕ) (w i j : ℕ) → AreBestParts set graphs c.tasks
    → AreUsefulSets set graphs useful → i < length set.tasks →
    gamma_point set (point_shared graphs useful (part_in c.tasks)) window w i j
    ≤ gamma_ecb set (part_in c.tasks) window w i j

-- a task set in its ranges with its code and the code's graphs, none of which is refused, is safe
-- with the responses of refined windows
abbrev pub RefinedIsSafe : Type 0
RefinedIsSafe =
    (set : TaskSet) (code : Code) (graphs : ℕ → TaskGraph) (tasks : List RefinedTask) →
    IsTaskSet set → IsCodeMap (word_at code.images) →
    ((k : ℕ) → k < length set.tasks
    → IsGraphOf (word_at code.images) (plan_of (system_of set code) k) (graphs k)) →
    AreRefined set graphs tasks → IsSafeWith set code (responses tasks)

-- refined windows hold their demand by sound parts: those of all tasks that the method of each
-- window counts
pub record HaveWalks (set : TaskSet) (graphs : ℕ → TaskGraph) (parts : RefinedParts)
    (tasks : List RefinedTask) : Type 0 where
  pub walks : ℕ → ℕ → WalkPart
  pub sound : (i k : ℕ) → k < length set.tasks
      → IsSoundPart set.platform (graphs k) (walks i k)
  pub parts_are : (i k : ℕ) → (walks i k).part ≡ (parts_by parts (method_at tasks i)).part k
  pub useful_are : (i k : ℕ) → (walks i k).useful ≡ (parts_by parts (method_at tasks i)).useful k
  pub fit : FitByParts set graphs walks (window_at tasks) (method_at tasks)

abbrev pub RefinedHaveWalks : Type 0
RefinedHaveWalks =
    (set : TaskSet) (graphs : ℕ → TaskGraph) (parts : RefinedParts) (tasks : List RefinedTask) →
    1 ≤ set.platform.sets → ((k : ℕ) → k < length set.tasks → IsGraph (graphs k).graph) →
    ((k : ℕ) → k < length set.tasks → IsNested (graphs k).graph (graphs k).nest) →
    AreRefinedParts set graphs parts → AreRefinedBy set graphs parts tasks
    → HaveWalks set graphs parts tasks

-- in a kept run, legal or not, an undisturbed job completes within its switch and the bound of its
-- chosen part
abbrev pub ChosenIsBounded : Type 0
ChosenIsBounded =
    (s : Start) (set : TaskSet) (graphs : ℕ → TaskGraph) (parts : RefinedParts) (n x first : ℕ) →
    HasTaskRanges set → IsCodeOf s.system set graphs → IsRunOf set s → IsKept (state s n) →
    AreRefinedParts set graphs parts → x < length s.lines →
    let steps = s.system.platform.switch + (parts.chosen.part (job_task s x)).bound in
    first + steps ≤ n → IsUndisturbed s x first steps
    → IsAnsweredBy (first + steps) (job_after s n x).standing

-- of an open job whose watch is not broken: each set that holds a block before the job's node,
-- prepaid, is in credit, or the job's own last fetch of the set was of that block. So a miss at a
-- prepaid hit is paid for, or it is an own reload
abbrev pub PrepaidStates : Type 0
PrepaidStates =
    (s : Start) (set : TaskSet) (graphs : ℕ → TaskGraph) (part : Part) (useful : ℕ → ℕ → Bool)
    (n x : ℕ) →
    HasTaskRanges set → IsCodeOf s.system set graphs → IsFollowed set s n x →
    is_open (job_after s n x).standing ≡ true →
    let t = graphs (job_task s x) in
    (P : IsPersistentPart s.system.platform t part useful)
    → HoldsPrepaid s graphs P.bound.pay (Prepaid t.graph P.events) n x

-- there is at most one list of refined windows
abbrev pub OneRefined : Type 0
OneRefined =
    (set : TaskSet) (graphs : ℕ → TaskGraph) (one two : List RefinedTask) → HasTimes set →
    ((k : ℕ) → k < length set.tasks → IsGraph (graphs k).graph) →
    AreRefined set graphs one → AreRefined set graphs two → one ≡ two

-- how refining ends, unless out of memory: with the refined windows of a set, or a refusal
abbrev pub IsRefineEnd : TaskSet → (ℕ → TaskGraph) → Result (List RefinedTask) RefineError → Type 0
IsRefineEnd set graphs (Ok tasks) = AreRefined set graphs tasks
IsRefineEnd set graphs (Err e) = (e ≢ Memory) × IsRefineError set graphs e

-- there is at most one such end
abbrev pub OneRefineEnd : Type 0
OneRefineEnd =
    (set : TaskSet) (graphs : ℕ → TaskGraph) (one two : Result (List RefinedTask) RefineError) →
    HasTimes set → ((k : ℕ) → k < length set.tasks → IsGraph (graphs k).graph) →
    IsRefineEnd set graphs one → IsRefineEnd set graphs two → one ≡ two

-- the refined windows of a set, none of them longer than those of a certificate
pub record HasNoLonger (set : TaskSet) (graphs : ℕ → TaskGraph) (c : Certificate) : Type 0 where
  pub tasks : List RefinedTask
  pub refined : AreRefined set graphs tasks
  pub no_longer : (k : ℕ) → k < length set.tasks → window_at tasks k ≤ certified_window c k

-- if the analysis gives a certificate, there are refined windows by the set's parts, none of them
-- longer
abbrev pub RefinedIsNoLonger : Type 0
RefinedIsNoLonger =
    (set : TaskSet) (graphs : ℕ → TaskGraph) (parts : RefinedParts) (c : Certificate) →
    HasTimes set → AreRefinedParts set graphs parts → IsBest set graphs c
    → HasNoLonger set graphs c

-- it cannot be refuted that refining ends
abbrev pub RefinementExists : Type 0
RefinementExists =
    (set : TaskSet) (graphs : ℕ → TaskGraph) → IsTaskSet set
    → ((k : ℕ) → k < length set.tasks → IsAnalysable (graphs k))
    → ((r : Result (List RefinedTask) RefineError) → IsRefineEnd set graphs r → ⊥) → ⊥
