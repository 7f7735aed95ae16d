-- Over the same graphs, a set has the certificate of the analysis with the windows by a demand, or
-- exactly one error.
use Rattle.std.proofs.Common.{◌≡◌, ◌≢◌, ℕ, ◌<◌, ◌≤◌, List, length, Result, Ok, Err, ap, ◌∙◌, sym}
use Rattle.std.specs.Prelude.{slice_index_or}
use Rattle.crpd_base.specs.Limits.{most_entries}
use Rattle.crpd_base.specs.Tasks.{HasTimes}
use Rattle.crpd_base.specs.declared.data.Certificate.{Certificate}
use Rattle.crpd_base.specs.declared.data.TaskPart.{TaskPart}
use Rattle.crpd_base.specs.declared.data.TaskSet.{TaskSet}
use Rattle.flat_graph.specs.Graph.{IsGraph}
use Rattle.loop_regions.specs.TaskGraph.{TaskGraph}
use Rattle.evict_sets.specs.ListedPart.{no_task_part}
use Rattle.cert_check.proofs.OneAnswer.{neither_less}
use Rattle.cert_check.specs.JudgeInput.{longest_at}
use Rattle.cert_model.specs.Reading.{entries}
use Rattle.cert_build.specs.Best.{Demands, IsAnalysisBy, IsBestPart}
use Rattle.cert_build.specs.Certify.{AreBestParts, IsFirstLarge, IsRefusedBy}
use Rattle.cert_build.specs.declared.error.BuildError.{BuildError}
use Rattle.cert_build.specs.declared.error.BuildError.TheVariants.{Memory, TooLarge, TooManyEntries}
use Rattle.cert_build.specs.declared.error.BuildError.TheVariants.{Unschedulable}
use Rattle.cert_build.proofs.Choices.{AllAgree, AreAbove}
use Rattle.cert_build.proofs.Counting.{not_large}
use Rattle.cert_build.proofs.OneBest.{one_analysis}
use Rattle.cert_build.proofs.OneOutcome.{IsOutcome, IsRefusal, bound_in, one_outcome}

module _ (set : TaskSet) (demands : Demands) (graphs : ℕ → TaskGraph) where
  -- the certificate with few entries, or an error other than out of memory
  abbrev pub IsBuilt : Result Certificate BuildError → Type 0
  IsBuilt (Ok c) = IsAnalysisBy set demands graphs c × (entries c.tasks ≤ most_entries)
  IsBuilt (Err e) = (e ≢ Memory) × IsRefusedBy set demands graphs e

  abbrev IsAnalysis : ℕ → TaskPart → Type 0
  IsAnalysis i = IsBestPart set.platform (graphs i)

  -- the first task whose bound is too large, and the address of its entry
  abbrev IsLargeAt : ℕ → ℕ → Type 0
  IsLargeAt i address =
      IsFirstLarge set graphs i × (address ≡ (graphs i).places.address (graphs i).graph.first)

  abbrev Refusal : BuildError → Type 0
  Refusal =
      IsRefusal set demands (longest_at set.platform graphs) IsAnalysis (AreBestParts set graphs)
      IsLargeAt

  abbrev Outcome : Result Certificate BuildError → Type 0
  Outcome =
      IsOutcome set demands (longest_at set.platform graphs) IsAnalysis (AreBestParts set graphs)
      IsLargeAt

  refusal : (e : BuildError) → IsRefusedBy set demands graphs e → Refusal e
  refusal Memory R = R
  refusal (TooLarge t a) R = R
  refusal (TooManyEntries n) R = R
  refusal (Unschedulable t) R = R

  outcome : (r : Result Certificate BuildError) → IsBuilt r → Outcome r
  outcome (Ok c) C = C
  outcome (Err e) E = (E.0, refusal e E.1)

  one_first : (i j a b : ℕ) → IsLargeAt i a → IsLargeAt j b → (i ≡ j) × (a ≡ b)
  one_first i j a b E D =
      let task : i ≡ j = neither_less i j (λ lt. D.0.before i lt E.0.large)
      (λ lt. E.0.before j lt D.0.large) in (
        task,
        E.1 ∙ ap (λ k. (graphs k).places.address (graphs k).graph.first) task ∙ sym D.1,
      )

  module _ (times : HasTimes set) (G : (k : ℕ) → k < length set.tasks → IsGraph (graphs k).graph)
      (agree : AllAgree set demands) (above : AreAbove set demands) where
    -- no bound of the best parts is too large
    none_large : (xs : List TaskPart) (i a : ℕ) → AreBestParts set graphs xs → IsLargeAt i a → ⊥
    none_large xs i a B L =
        not_large set.platform (graphs i) (slice_index_or xs i no_task_part) (G i L.0.task)
        (B.each i L.0.task) (B.within i L.0.task) L.0.large

    -- the certificate's parts are best parts
    parts_of : (c : Certificate) → IsAnalysisBy set demands graphs c
        → AreBestParts set graphs c.tasks
    parts_of c C = record {
      tasks = C.tasks;
      each = λ k lt. (C.each k lt).part;
      within =
          bound_in set demands (longest_at set.platform graphs) IsAnalysis c times above C;
    }

    pub one_built : (r s : Result Certificate BuildError) → IsBuilt r → IsBuilt s → r ≡ s
    one_built r s a b =
        one_outcome set demands (longest_at set.platform graphs) IsAnalysis
        (AreBestParts set graphs) IsLargeAt agree (one_analysis set graphs) (λ xs B. B.tasks)
        (λ xs B. B.each) parts_of none_large one_first r s (outcome r a) (outcome s b)
