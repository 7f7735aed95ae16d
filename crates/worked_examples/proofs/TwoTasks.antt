-- The premises of the laws hold of two tasks of which one preempts the other.
use Rattle.std.proofs.Common.{◌≡◌, ℕ, ◌<◌, ◌≤◌, true, List, [], ◌∷◌, length, refl, sym, ap, subst}
use Rattle.std.proofs.Common.{inl, inr, arith, slice_index, slice_index_or}
use Rattle.std.proofs.lemmas.Bool.{cases_lt}
use Rattle.crpd_base.specs.declared.data.Method.TheVariants.{Ucb}
use Rattle.crpd_base.specs.Ranges.{IsTaskSpec, HaveOwnNames, IsTaskSet}
use Rattle.code_map.specs.Words.{word_at}
use Rattle.crpd_base.specs.Arrivals.{AreSpaced, IsReleasedInTime}
use Rattle.rv_decode.specs.Flow.{flow, IsCodeMap}
use Rattle.rv_decode.specs.Table.{ins_of_word, table}
use Rattle.rv_decode.specs.Cost.{work_cost}
use Rattle.rv_core.specs.Effect.{next_pc, written, memory_after}
use Rattle.flow_watch.specs.Watch.{step as watch_step, is_unbroken}
use Rattle.cert_check.specs.JudgeInput.{IsGraphOf, certified_part, longest_at, window_at}
use Rattle.cert_check.specs.declared.outcome.Clause.{Clause}
use Rattle.cert_check.specs.Verdict.{ClauseHolds, IsYes}
use Rattle.cert_check.proofs.Clauses.{all_hold}
use Rattle.delay_count.specs.Demand.{demand}
use Rattle.delay_count.specs.Gamma.{union_count}
use Rattle.preempt_machine.specs.declared.End.TheVariants.{Answered}
use Rattle.preempt_machine.specs.Machine.{plan_of, ins_at, no_job}
use Rattle.preempt_machine.specs.Step.{state, candidate, turn_after_step, is_ready, comes_before}
use Rattle.preempt_machine.specs.Safe.{IsSafe, IsLegalRun, IsKept, completions}
use Rattle.worked_examples.specs.TwoWords.{platform, graph_from, zero_alone}
use Rattle.worked_examples.specs.Least.{AreLeast}
use Rattle.worked_examples.specs.StraightCode.{first_alone}
use Rattle.worked_examples.specs.TwoTasks.{code, high_name, low_name, system, set, graphs}
use Rattle.worked_examples.specs.TwoTasks.{certificate, start, TwoTasks}
use Rattle.sound_laws.specs.Accepted.{IsChecked}
use Rattle.sound_laws.specs.Headline.{CheckedCodeIsSafe}
use Rattle.crpd_base.proofs.Few.{two, one_pair}
use Rattle.worked_examples.proofs.InRanges.{is_platform, is_task}
use Rattle.worked_examples.proofs.TwoWords.{way, is_way, certified}
use Rattle.worked_examples.proofs.LowFiles.{low_code}
use Rattle.worked_examples.proofs.StraightTests.{IsAt, IsCode, is_graph_of, IsCertified, part_holds}
use Rattle.worked_examples.proofs.StraightTests.{named_holds}

demand_low : demand set (certified_part certificate) (longest_at platform graphs)
    (window_at certificate) 1 Ucb 49 ≡ 49
unfolding union_count
demand_low = refl

answers : completions (state start 100) ≡ Answered 49 ∷ Answered 33 ∷ []
unfolding word_at ins_of_word table work_cost next_pc written memory_after watch_step flow ins_at
    candidate turn_after_step is_ready comes_before
answers = refl

code_high : IsCode (word_at code.images) 0x2000 (way 0x2000)
unfolding word_at flow ins_of_word table
code_high =
    record {
      entry_at = refl;
      at =
          two (IsAt (word_at code.images) 0x2000 (way 0x2000))
          (record { goes = refl; no_error = refl; decodes = refl })
          (record { goes = refl; no_error = refl; decodes = refl });
      one_number = refl;
    }

code_low : IsCode (word_at code.images) 0x1000 (way 0x1000)
unfolding word_at flow ins_of_word table
code_low =
    record {
      entry_at = refl;
      at =
          two (IsAt (word_at code.images) 0x1000 (way 0x1000))
          (record { goes = refl; no_error = refl; decodes = refl })
          (record { goes = refl; no_error = refl; decodes = refl });
      one_number = refl;
    }

pub graphs_of : (k : ℕ) → k < 2 → IsGraphOf (word_at code.images) (plan_of system k) (graphs k)
graphs_of =
    two (λ k. IsGraphOf (word_at code.images) (plan_of system k) (graphs k))
    (is_graph_of (word_at code.images) 0x2000 (way 0x2000) (is_way 0x2000) code_high)
    (is_graph_of (word_at code.images) 0x1000 (way 0x1000) (is_way 0x1000) code_low)

is_set : IsTaskSet set
is_set =
    record {
      platform = is_platform 4 (omega arith) (omega arith);
      some = omega arith;
      few = omega arith;
      each = λ i d l.
          two (λ k. IsTaskSpec (slice_index_or set.tasks k d))
          (is_task high_name 100 refl refl (omega arith) (omega arith))
          (is_task low_name 100 refl refl (omega arith) (omega arith)) i l;
      names = λ i j d a b.
          one_pair
          (λ x y. HaveOwnNames (slice_index_or set.tasks x d) (slice_index_or set.tasks y d))
          (λ e. let l = ap (length {A = ℕ}) e in absurd (omega (arith, l))) i j a b;
    }

high_certified : IsCertified platform (way 0x2000) 12 zero_alone zero_alone (12 ∷ 1 ∷ [])
unfolding work_cost flow
high_certified = record {
  evicts = refl;
  reuses = refl;
  pays = refl;
  ends = refl;
  first = omega arith;
  count = refl;
}

is_yes : IsYes set graphs certificate
is_yes i k l =
    two (λ j. (clause : Clause) → ClauseHolds set graphs certificate j clause)
    (all_hold set graphs certificate 0 (omega arith) refl refl refl
    (named_holds platform (graph_from 0x2000)
    (first_alone 12 zero_alone zero_alone (12 ∷ 1 ∷ []) 17) high_name
    (part_holds platform (way 0x2000) 12 zero_alone zero_alone (12 ∷ 1 ∷ []) 17
    (is_way 0x2000) high_certified))
    (omega arith) (omega arith) refl (omega arith))
    (all_hold set graphs certificate 1 (omega arith) refl refl refl
    (named_holds platform (graph_from 0x1000)
    (first_alone 12 zero_alone zero_alone (12 ∷ 1 ∷ []) 49) low_name
    (part_holds platform (way 0x1000) 12 zero_alone zero_alone (12 ∷ 1 ∷ []) 49
    (is_way 0x1000) certified))
    (omega arith) (subst (λ x. x ≤ 49) (sym demand_low) (omega arith)) refl (omega arith))
    i l k

is_legal : IsLegalRun set start
is_legal =
    record {
      cache = omega arith;
      memory = tt;
      tasks = λ i d l.
          two (λ k. (slice_index_or start.lines k d).task.0 < 2) (omega arith) (omega arith) i l;
      legal = record {
        spaced = λ i j d a b.
            one_pair
            (λ x y. AreSpaced set (slice_index_or start.lines x d) (slice_index_or start.lines y d))
            (λ e. absurd (omega (arith, e))) i j a b;
        in_time = λ i d l.
            two (λ k. IsReleasedInTime set (slice_index_or start.lines k d))
            (omega arith, omega arith) (omega arith, omega arith) i l;
      };
    }

kept : IsKept (state start 100)
unfolding word_at ins_of_word table work_cost next_pc written memory_after watch_step flow ins_at
    candidate turn_after_step is_ready comes_before
kept i d l =
    two (λ k. is_unbroken (slice_index_or (state start 100).jobs k d).watch ≡ true) refl refl i l

-- one step before they complete, the jobs are open in a kept state
kept_at_32 : IsKept (state start 32)
unfolding word_at ins_of_word table work_cost next_pc written memory_after watch_step flow ins_at
    candidate turn_after_step is_ready comes_before
kept_at_32 i d l =
    two (λ k. is_unbroken (slice_index_or (state start 32).jobs k d).watch ≡ true) refl refl i l

kept_at_48 : IsKept (state start 48)
unfolding word_at ins_of_word table work_cost next_pc written memory_after watch_step flow ins_at
    candidate turn_after_step is_ready comes_before
kept_at_48 i d l =
    two (λ k. is_unbroken (slice_index_or (state start 48).jobs k d).watch ≡ true) refl refl i l

high_least : (others : List ℕ) → IsSafe system set others → 17 ≤ slice_index others 0
unfolding word_at ins_of_word table work_cost next_pc written memory_after watch_step flow ins_at
    candidate turn_after_step is_ready comes_before
high_least others safe =
    elim (cases_lt (slice_index others 0) 17) [
      | inl l ↦
          absurd (safe start 32 refl is_legal kept_at_32 1 no_job (omega arith)
          (omega (arith, l), λ q. q))
      | inr g ↦ g
    ]

low_least : (others : List ℕ) → IsSafe system set others → 49 ≤ slice_index others 1
unfolding word_at ins_of_word table work_cost next_pc written memory_after watch_step flow ins_at
    candidate turn_after_step is_ready comes_before
low_least others safe =
    elim (cases_lt (slice_index others 1) 49) [
      | inl l ↦
          absurd (safe start 48 refl is_legal kept_at_48 0 no_job (omega arith)
          (omega (arith, l), λ q. q))
      | inr g ↦ g
    ]

least : AreLeast system set (17 ∷ 49 ∷ [])
least others safe =
    two (λ k. slice_index (17 ∷ 49 ∷ []) k ≤ slice_index others k) (high_least others safe)
    (low_least others safe)

-- the words all end before the address at which jobs end
pub is_map : IsCodeMap (word_at code.images)
is_map = low_code code.images refl

pub two_tasks : CheckedCodeIsSafe → TwoTasks
two_tasks law =
    let checked : IsChecked set code graphs certificate = record {
      ranges = is_set;
      words = is_map;
      graphs_of = graphs_of;
      says = is_yes;
    } in
    record {
      checked = checked;
      safe = law set code graphs certificate checked;
      least = least;
      legal = is_legal;
      kept = kept;
      answers = answers;
    }
