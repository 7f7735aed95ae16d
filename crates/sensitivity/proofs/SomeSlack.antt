-- Every set is accepted or stops, and has slacks.
use Rattle.std.proofs.Common.{◌≡◌, ◌⊎◌, ℕ, suc, ◌<◌, ◌≤◌, length, Some, None, refl, inl}
use Rattle.std.proofs.Common.{inr, ⊎_elim, arith}
use Rattle.std.proofs.lemmas.Bool.{cases_eq}
use Rattle.crpd_base.proofs.Times.{has_times}
use Rattle.crpd_base.specs.Limits.{most_cost}
use Rattle.crpd_base.specs.Ranges.{IsTaskSet}
use Rattle.crpd_base.specs.declared.data.Slack.{Slack}
use Rattle.crpd_base.specs.declared.data.Stop.{Stop}
use Rattle.crpd_base.specs.declared.data.Stop.TheVariants.{Limit, Window, Bound}
use Rattle.crpd_base.specs.declared.data.TaskSet.{TaskSet}
use Rattle.delay_count.specs.Demand.{demand}
use Rattle.loop_regions.specs.TaskGraph.{TaskGraph}
use Rattle.cert_check.specs.JudgeInput.{longest_at}
use Rattle.cert_build.specs.Analysis.{part_of_analysis}
use Rattle.cert_build.specs.Assembly.{analysis_at, no_analysis}
use Rattle.cert_build.proofs.Choices.{multiset_agree}
use Rattle.sensitivity.specs.Accepted.{AreAnalysedParts, IsAccepted, IsStop}
use Rattle.sensitivity.specs.Costs.{with_miss, with_switch}
use Rattle.sensitivity.specs.Laws.{IsLoopBounded, StaysAccepted}
use Rattle.sensitivity.specs.Slack.{IsSlack}
use Rattle.sensitivity.proofs.Acceptance.{stays_accepted_by}
use Rattle.sensitivity.proofs.BestParts.{is_within, large_bound, part_is, parts_are}
use Rattle.sensitivity.proofs.Trials.{with_ranges}
use Rattle.sensitivity.specs.Laws.{SlacksExist}
use Rattle.cert_build.proofs.SomeCertificate.{HasAnalyses, HasFirstLarge, IsAnalysisOf}
use Rattle.cert_build.proofs.SomeCertificate.{analyses_or_large}
use Rattle.response.proofs.SomeWindows.{windows_or_first}
use Rattle.cert_build.specs.AnalysisEnds.{IsAnalysable}
use Rattle.crpd_base.proofs.Classical.{IsGreatestTo, NotNot, decided, greatest_to, value_at}

-- ---- a set is accepted, or stops

module _ (set : TaskSet) (S : IsTaskSet set) (graphs : ℕ → TaskGraph)
    (A : (k : ℕ) → k < length set.tasks → IsAnalysable (graphs k)) where
  abbrev HasStop : Type 0
  HasStop = (stop : Stop) × IsStop set graphs stop

  large : HasFirstLarge set S graphs A → HasStop
  large (i, L, (all, V)) =
      let b = large_bound set.platform (graphs i) (A i L.task).nested L.large in (
        Bound (record { 0 = i }),
        record {
          task = L.task;
          cycles = b.0;
          bound = b.1;
          large = b.2;
          higher = λ k lt.
              let is = value_at (IsAnalysisOf set graphs) i all no_analysis V k lt in
              let part = part_of_analysis (analysis_at all k) in (
                part.part.bound,
                (part_is set.platform (graphs k) part is.0.best).bound,
                is_within part.part.bound is.0.within,
              );
        },
      )

  with_analyses : HasAnalyses set S graphs A (length set.tasks) → IsAccepted set graphs ⊎ HasStop
  with_analyses (all, V) =
      let is : (k : ℕ) → k < length set.tasks → IsAnalysisOf set graphs k (analysis_at all k) =
      value_at (IsAnalysisOf set graphs) (length set.tasks) all no_analysis V in
      let are : AreAnalysedParts set graphs (λ k. (analysis_at all k).part) =
      parts_are set graphs (λ k. part_of_analysis (analysis_at all k)) (λ k lt. (is k lt).0.best)
      (λ k lt. (is k lt).0.within) in
      elim (windows_or_first set
      (demand set (λ k. (analysis_at all k).part) (longest_at set.platform graphs))
      (multiset_agree set (has_times set S) (λ k. (analysis_at all k).part)
      (λ k. (analysis_at all k).part) (longest_at set.platform graphs)
      (longest_at set.platform graphs) (λ k lt. refl) (λ k lt. refl))) [
        | inl (choices, C) ↦
            inl (record {
              parts = λ k. (analysis_at all k).part;
              are = are;
              choices = choices;
              windows = C;
            })
        | inr (i, first) ↦
            inr (
              Window (record { 0 = i }),
              record { parts = λ k. (analysis_at all k).part; are = are; first = first },
            )
      ]

  accepted_or_stops : NotNot (IsAccepted set graphs ⊎ HasStop)
  accepted_or_stops = λ none.
      analyses_or_large set S graphs A
      (⊎_elim (λ all. none (with_analyses all)) (λ i. none (inr (large i))))

-- ---- the slack by one cost

module _ (at : ℕ → TaskSet) (graphs : ℕ → TaskGraph)
    (S : (c : ℕ) → c ≤ most_cost → IsTaskSet (at c))
    (A : (c k : ℕ) → k < length (at c).tasks → IsAnalysable (graphs k))
    (stays : (c d : ℕ) → c ≤ d → IsAccepted (at d) graphs → IsAccepted (at c) graphs) where
  abbrev HasSlack : Type 0
  HasSlack = (slack : Slack) × IsSlack at graphs slack

  none_accepted : (IsAccepted (at 0) graphs → ⊥) → (stop : Stop) → IsStop (at 0) graphs stop
      → HasSlack
  none_accepted refused stop is = (
    record { greatest = None; stop = stop },
    record {
      greatest = λ c ge le accepted. refused (stays 0 c (omega arith) accepted);
      stop = is;
    },
  )

  greatest_is_at : (g : ℕ) → IsGreatestTo (λ c. IsAccepted (at c) graphs) most_cost g
      → (stop : Stop)
      → ((g ≡ most_cost) × (stop ≡ Limit)) ⊎ ((g < most_cost) × IsStop (at (suc g)) graphs stop)
      → HasSlack
  greatest_is_at g G stop is = (
    record { greatest = Some g; stop = stop },
    record {
      greatest = (
        G.within,
        (λ c le. stays c g le G.holds),
        (λ c ge le accepted. G.greatest c (omega arith) le accepted),
      );
      stop = is;
    },
  )

  a_slack : NotNot HasSlack
  a_slack = λ none.
      decided (IsAccepted (at 0) graphs) (⊎_elim
      (λ first. greatest_to (λ c. IsAccepted (at c) graphs) most_cost first
      (λ (g : (g : ℕ) × IsGreatestTo (λ c. IsAccepted (at c) graphs) most_cost g).
      elim (cases_eq g.0 most_cost) [
        | inl same ↦ none (greatest_is_at g.0 g.1 Limit (inl (same, refl)))
        | inr other ↦
            let lt : g.0 < most_cost = let le = g.1.within in omega (arith, le, other) in
            accepted_or_stops (at (suc g.0)) (S (suc g.0) lt) graphs (A (suc g.0)) (⊎_elim
            (λ accepted. g.1.greatest (suc g.0) (omega arith) lt accepted)
            (λ stop. none (greatest_is_at g.0 g.1 stop.0 (inr (lt, stop.1)))))
      ]))
      (λ refused. accepted_or_stops (at 0) (S 0 (omega arith)) graphs (A 0) (⊎_elim refused
      (λ stop. none (none_accepted refused stop.0 stop.1)))))

slacks_by : StaysAccepted → SlacksExist
slacks_by stays set graphs S A none =
    a_slack (with_switch set) graphs
    (λ c le. with_ranges set c set.platform.miss S le S.platform.miss) (λ c k lt. A k lt)
    (λ c d le. stays set graphs c set.platform.miss d set.platform.miss
    (record { times = has_times set S; bounded = bounded; switch = le; miss = omega arith }))
    (λ first. a_slack (with_miss set) graphs
    (λ c le. with_ranges set set.platform.switch c S S.platform.switch le) (λ c k lt. A k lt)
    (λ c d le. stays set graphs set.platform.switch c set.platform.switch d
    (record { times = has_times set S; bounded = bounded; switch = omega arith; miss = le }))
    (λ second. none first.0 second.0 first.1 second.1))
  where
    bounded : (k : ℕ) → k < length set.tasks → IsLoopBounded (graphs k)
    bounded k lt = record {
      graph = (A k lt).graph;
      nested = (A k lt).nested;
      no_cycle = (A k lt).no_cycle;
    }

pub slacks_exist : SlacksExist
slacks_exist = slacks_by stays_accepted_by
