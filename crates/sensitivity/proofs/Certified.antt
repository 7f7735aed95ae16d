-- A set is accepted exactly if there is the analysis' certificate of it.
use Rattle.std.proofs.Common.{◌≡◌, ℕ, ◌<◌, List, length, map, get_or, refl, sym, ap, ◌∙◌, subst}
use Rattle.std.proofs.Common.{arith}
use Rattle.std.proofs.Math.ListN.{get_or-map, length-map}
use Rattle.crpd_base.proofs.Classical.{AreValues, NotNot, a_list, value_at}
use Rattle.crpd_base.proofs.Times.{has_times}
use Rattle.crpd_base.specs.Ranges.{IsTaskSet}
use Rattle.crpd_base.specs.declared.data.Certificate.{Certificate}
use Rattle.crpd_base.specs.declared.data.Method.{Method}
use Rattle.crpd_base.specs.declared.data.TaskPart.{TaskPart}
use Rattle.crpd_base.specs.declared.data.TaskSet.{TaskSet}
use Rattle.delay_count.specs.Demand.{demand}
use Rattle.evict_sets.specs.ListedPart.{certified_task, no_task_part}
use Rattle.loop_regions.specs.TaskGraph.{TaskGraph}
use Rattle.response.proofs.Choices.{answer_too}
use Rattle.response.specs.Windows.{AreAllChoices, IsSmallerWindow, chosen_method, chosen_window}
use Rattle.response.specs.declared.choice.Choice.{Choice}
use Rattle.cert_check.specs.JudgeInput.{certified_part, longest_at, window_at}
use Rattle.cert_build.specs.Analysis.{IsAnalysis, part_of_analysis}
use Rattle.cert_build.specs.AnalysisEnds.{IsAnalysable}
use Rattle.cert_build.specs.Assembly.{analysis_at}
use Rattle.cert_build.specs.Best.{IsBest, IsBestPart}
use Rattle.cert_build.specs.Certify.{IsCompletedBy, part_in}
use Rattle.cert_build.specs.declared.error.BuildError.TheVariants.{Memory, TooLarge, TooManyEntries}
use Rattle.cert_build.specs.declared.error.BuildError.TheVariants.{Unschedulable}
use Rattle.cert_build.specs.declared.one_task.Analysis.{Analysis}
use Rattle.cert_build.proofs.Certified.{certified, part_best}
use Rattle.cert_build.proofs.Choices.{multiset_above, multiset_agree}
use Rattle.cert_build.proofs.OneOutcome.{bound_in}
use Rattle.cert_build.proofs.SomeCertificate.{HasAnalyses, IsAnalysisOf, IsPartAt, analysed}
use Rattle.cert_build.proofs.SomeCertificate.{analysis_is, assembled, completed, some_parts}
use Rattle.crpd_base.specs.declared.data.Stop.TheVariants.{Window}
use Rattle.sensitivity.specs.Accepted.{IsAccepted}
use Rattle.sensitivity.specs.Certified.{AcceptedIsCertified, AcceptedIsNotRefused}
use Rattle.sensitivity.specs.Certified.{CertifiedIsAccepted}
use Rattle.sensitivity.proofs.Acceptance.{never_stops_by}
use Rattle.sensitivity.proofs.BestParts.{not_large, one_part, parts_are}

-- ---- from the certificate

-- the choice of a task
abbrev choice_of : TaskPart → Choice
choice_of t = record { window = t.window; method = t.method }

module _ (c : Certificate) where
  abbrev choices : List Choice
  choices = map choice_of c.tasks

  choice_is : (k : ℕ) → get_or choices k (choice_of no_task_part) ≡ choice_of (certified_task c k)
  choice_is k = get_or-map choice_of c.tasks k no_task_part

  window_is : (k : ℕ) → chosen_window choices k ≡ window_at c k
  window_is k =
      get_or-map (λ (x : Choice). x.window) choices k (choice_of no_task_part)
      ∙ ap (λ (x : Choice). x.window) (choice_is k)

  method_is : (k : ℕ) → chosen_method choices k ≡ (certified_task c k).method
  method_is k =
      get_or-map (λ (x : Choice). x.method) choices k (choice_of no_task_part)
      ∙ ap (λ (x : Choice). x.method) (choice_is k)

  module _ (set : TaskSet) (graphs : ℕ → TaskGraph) (C : IsBest set graphs c) where
    abbrev longest : ℕ → ℕ
    longest = longest_at set.platform graphs

    all_windows : chosen_window choices ≡ window_at c
    all_windows = λ i k. window_is k i

    smaller : (k : ℕ) → k < length set.tasks → IsSmallerWindow set
        (demand set (certified_part c) longest (chosen_window choices) k) k
        (chosen_method choices k) (chosen_window choices k)
    smaller k lt =
        subst (λ (w : ℕ → ℕ). IsSmallerWindow set (demand set (certified_part c) longest w k) k
        (chosen_method choices k) (w k)) (sym all_windows)
        (subst (λ (m : Method). IsSmallerWindow set
        (demand set (certified_part c) longest (window_at c) k) k m (window_at c k))
        (sym (method_is k)) (C.each k lt).window)

    windows : AreAllChoices set (demand set (certified_part c) longest) choices
    windows = record { tasks = length-map c.tasks choice_of ∙ C.tasks; each = smaller }

pub certified_is_accepted : CertifiedIsAccepted
certified_is_accepted set graphs c times C = record {
  parts = certified_part c;
  are =
      parts_are set graphs (certified_task c) (λ k lt. (C.each k lt).part)
      (bound_in set (demand set) (longest_at set.platform graphs)
      (λ i. IsBestPart set.platform (graphs i)) c times (multiset_above set) C);
  choices = choices c;
  windows = windows c set graphs C;
}

-- ---- to a certificate

module _ (set : TaskSet) (S : IsTaskSet set) (graphs : ℕ → TaskGraph)
    (A : (k : ℕ) → k < length set.tasks → IsAnalysable (graphs k)) (a : IsAccepted set graphs) where
  some_analyses : NotNot (HasAnalyses set S graphs A (length set.tasks))
  some_analyses =
      a_list (IsAnalysisOf set graphs) (length set.tasks)
      (λ k lt. analysed set S graphs A k lt
      (not_large set.platform (graphs k) (A k lt).graph (A k lt).nested (a.parts k).bound
      (a.are.each k lt).bound (a.are.within k lt)))

  module _ (all : List Analysis) (V : AreValues (IsAnalysisOf set graphs) (length set.tasks) all)
    where
      is : (k : ℕ) → k < length set.tasks → IsAnalysis set.platform (graphs k) (analysis_at all k)
      is k lt = (analysis_is set S graphs A all V k lt).0

      same_part : (k : ℕ) → k < length set.tasks → a.parts k ≡ (analysis_at all k).part
      same_part k lt =
          one_part set.platform (graphs k) (A k lt).graph (a.parts k) (analysis_at all k).part
          (a.are.each k lt)
          ((parts_are set graphs (λ j. part_of_analysis (analysis_at all j)) (λ j l. (is j l).best)
          (λ j l. (is j l).within)).each k lt)

      found : AreAllChoices set
          (demand set (λ k. (analysis_at all k).part) (longest_at set.platform graphs)) a.choices
      found =
          answer_too set (demand set a.parts (longest_at set.platform graphs))
          (demand set (λ k. (analysis_at all k).part) (longest_at set.platform graphs))
          (multiset_agree set (has_times set S) a.parts (λ k. (analysis_at all k).part)
          (longest_at set.platform graphs) (longest_at set.platform graphs) same_part
          (λ k lt. refl))
          a.choices a.windows

      module _ (parts : List TaskPart)
          (P : AreValues (IsPartAt set all a.choices) (length set.tasks) parts) where
        abbrev made : Certificate
        made = assembled set all a.choices parts

        completes : IsCompletedBy set (demand set) graphs (analysis_at all) made
        completes =
            completed set all a.choices (demand set) (multiset_agree set (has_times set S)) graphs
            found parts P

        best : IsBest set graphs made
        best =
            certified set (demand set) graphs (analysis_at all) made completes
            (λ i. IsBestPart set.platform (graphs i))
            (λ i lt. part_best set all made completes.parts graphs i lt (is i lt))

        same_window : (k : ℕ) → k < length set.tasks
            → window_at made k ≡ chosen_window a.choices k
        same_window k lt =
            ap (λ (t : TaskPart). t.window)
            (value_at (IsPartAt set all a.choices) (length set.tasks) parts no_task_part P k lt)

pub accepted_is_certified : AcceptedIsCertified
accepted_is_certified set graphs S A a none =
    some_analyses set S graphs A a (λ h.
    some_parts set h.0 a.choices (λ q.
    none (made set S graphs A a h.0 h.1 q.0 q.1) (best set S graphs A a h.0 h.1 q.0 q.1)
    (same_window set S graphs A a h.0 h.1 q.0 q.1)))

-- ---- errors

pub accepted_is_not_refused : AcceptedIsNotRefused
accepted_is_not_refused set graphs Memory times bounded a R = tt
accepted_is_not_refused set graphs (TooManyEntries n) times bounded a R = tt
accepted_is_not_refused set graphs (TooLarge t address) times bounded a R =
    let lt = R.0.task in
    not_large set.platform (graphs t.0) (bounded t.0 lt).graph (bounded t.0 lt).nested
    (a.parts t.0).bound (a.are.each t.0 lt).bound (a.are.within t.0 lt) R.0.large
accepted_is_not_refused set graphs (Unschedulable t) times bounded a (parts, B, few, first) =
    let s = set.platform.switch in
    let m = set.platform.miss in
    never_stops_by set graphs s m s m (Window t)
    (record { times = times; bounded = bounded; switch = omega arith; miss = omega arith }) a
    (record {
      parts = part_in parts;
      are = parts_are set graphs (λ k. get_or parts k no_task_part) B.each B.within;
      first = first;
    })
