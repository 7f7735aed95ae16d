-- The responses of an accepted set: the window of each task and its jitter.
use Rattle.std.proofs.Common.{◌≡◌, ℕ, ◌+◌, ◌<◌, ◌≤◌, List, length, map, slice_index, sym, ap, ◌∙◌}
use Rattle.std.proofs.Common.{subst, arith}
use Rattle.std.proofs.lemmas.List.{ext_get_or, get_or-map, length-map}
use Rattle.std.proofs.lemmas.List.FromFn.{get_or-map-range_with_len, length-map-range_with_len}
use Rattle.std.specs.List.{range_with_len}
use Rattle.crpd_base.specs.Tasks.{deadline_of, jitter_of}
use Rattle.crpd_base.specs.declared.data.Certificate.{Certificate}
use Rattle.crpd_base.specs.declared.data.TaskPart.{TaskPart}
use Rattle.crpd_base.specs.declared.data.TaskSet.{TaskSet}
use Rattle.delay_count.specs.Demand.{demand}
use Rattle.evict_sets.specs.ListedPart.{no_task_part}
use Rattle.loop_regions.specs.TaskGraph.{TaskGraph}
use Rattle.response.proofs.WindowLaws.{smaller_is_window}
use Rattle.response.specs.Windows.{chosen_method, chosen_window}
use Rattle.cert_build.specs.Best.{IsBest}
use Rattle.cert_check.specs.JudgeInput.{longest_at, responses, window_at}
use Rattle.sensitivity.specs.Accepted.{IsAccepted}

module _ (set : TaskSet) (graphs : ℕ → TaskGraph) (a : IsAccepted set graphs) where
  abbrev response : ℕ → ℕ
  response k = chosen_window a.choices k + jitter_of set k

  abbrev pub all_responses : List ℕ
  all_responses = map response (range_with_len 0 (length set.tasks))

  pub responses_count : length all_responses ≡ length set.tasks
  responses_count = length-map-range_with_len response 0 (length set.tasks)

  response_at : (k : ℕ) → k < length set.tasks → slice_index all_responses k ≡ response k
  response_at k lt =
      get_or-map-range_with_len response 0 (length set.tasks) k k 0 lt (omega arith)

  pub in_deadlines : (k : ℕ) → k < length set.tasks
      → slice_index all_responses k ≤ deadline_of set k
  in_deadlines k lt =
      subst (λ r. r ≤ deadline_of set k) (sym (response_at k lt))
      (smaller_is_window set
      (demand set a.parts (longest_at set.platform graphs) (chosen_window a.choices) k) k
      (chosen_method a.choices k) (chosen_window a.choices k) (a.windows.each k lt)).in_deadline

  -- they are those of the analysis' certificate with these windows
  module _ (c : Certificate) (best : IsBest set graphs c)
      (windows : (k : ℕ) → k < length set.tasks → window_at c k ≡ chosen_window a.choices k) where
    certified_at : (k : ℕ) → k < length set.tasks
        → slice_index (responses c) k ≡ slice_index all_responses k
    certified_at k lt =
        get_or-map (λ (t : TaskPart). t.response) c.tasks k no_task_part 0
        (let e = best.tasks in omega (arith, e, lt))
        ∙ (best.each k lt).response ∙ ap (λ w. w + jitter_of set k) (windows k lt)
        ∙ sym (response_at k lt)

    pub same_responses : responses c ≡ all_responses
    same_responses =
        let count = length-map c.tasks (λ (t : TaskPart). t.response) ∙ best.tasks in
        ext_get_or 0 (responses c) all_responses (count ∙ sym responses_count)
        (λ k lt. certified_at k (omega (arith, lt, count)))
