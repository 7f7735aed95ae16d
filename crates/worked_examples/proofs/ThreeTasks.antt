-- The premises of the laws hold of three tasks of which each higher one preempts the next.
use Rattle.std.proofs.Common.{◌≡◌, ℕ, ◌+◌, ◌<◌, ◌≤◌, true, pos, negsuc, List, [], ◌∷◌, length, Some}
use Rattle.std.proofs.Common.{None, refl, sym, ap, subst, inl, inr, arith}
use Rattle.std.specs.Prelude.{slice_index, slice_index_or}
use Rattle.std.proofs.lemmas.Bool.{cases_lt}
use Rattle.crpd_base.specs.declared.data.Method.TheVariants.{Ucb}
use Rattle.crpd_base.specs.Ranges.{IsTaskSpec, HaveOwnNames, IsTaskSet}
use Rattle.code_map.specs.Words.{word_at}
use Rattle.crpd_base.specs.Arrivals.{AreSpaced, IsReleasedInTime}
use Rattle.rv_decode.specs.declared.Ins.TheVariants.{Jal, Ecall}
use Rattle.rv_decode.specs.Flow.{flow, IsCodeMap}
use Rattle.rv_decode.specs.Table.{ins_of_word, table}
use Rattle.rv_decode.specs.Cost.{work_cost}
use Rattle.rv_core.specs.Effect.{next_pc, written, memory_after}
use Rattle.flow_watch.specs.Watch.{step as watch_step, is_unbroken}
use Rattle.cert_check.specs.JudgeInput.{IsGraphOf, certified_part, longest_at, window_at}
use Rattle.cert_check.specs.declared.outcome.Clause.{Clause}
use Rattle.cert_check.specs.Verdict.{ClauseHolds, IsYes}
use Rattle.cert_check.proofs.Clauses.{all_hold}
use Rattle.delay_count.specs.Demand.{demand}
use Rattle.delay_count.specs.Gamma.{union_count}
use Rattle.preempt_machine.specs.declared.End.TheVariants.{Answered}
use Rattle.preempt_machine.specs.Machine.{plan_of, ins_at, no_job}
use Rattle.preempt_machine.specs.Step.{state, candidate, turn_after_step, is_ready, comes_before}
use Rattle.preempt_machine.specs.Safe.{IsSafe, IsLegalRun, IsKept, completions}
use Rattle.worked_examples.specs.Least.{AreLeast}
use Rattle.worked_examples.specs.StraightCode.{first_alone}
use Rattle.worked_examples.specs.ThreeTasks.{platform, code, high_name, middle_name, low_name}
use Rattle.worked_examples.specs.ThreeTasks.{system, set, lines, there_again, graphs, one_to_four}
use Rattle.worked_examples.specs.ThreeTasks.{one_and_two, three_and_four, nothing, certificate}
use Rattle.worked_examples.specs.ThreeTasks.{start, ThreeTasks}
use Rattle.sound_laws.specs.Accepted.{IsChecked}
use Rattle.sound_laws.specs.Headline.{CheckedCodeIsSafe}
use Rattle.crpd_base.proofs.Few.{three, four, three_pairs}
use Rattle.worked_examples.proofs.InRanges.{is_platform, is_task}
use Rattle.worked_examples.proofs.LowFiles.{low_code}
use Rattle.worked_examples.proofs.StraightTests.{Way, IsWay, IsAt, IsCode, is_graph_of, IsCertified}
use Rattle.worked_examples.proofs.StraightTests.{part_holds, named_holds}

demand_middle : demand set (certified_part certificate) (longest_at platform graphs)
    (window_at certificate) 1 Ucb 115 ≡ 115
unfolding union_count
demand_middle = refl

demand_low : demand set (certified_part certificate) (longest_at platform graphs)
    (window_at certificate) 2 Ucb 175 ≡ 175
unfolding union_count
demand_low = refl

answers : completions (state start 180) ≡ Answered 175 ∷ Answered 146 ∷ Answered 117 ∷ []
unfolding word_at ins_of_word table work_cost next_pc written memory_after watch_step flow ins_at
    candidate turn_after_step is_ready comes_before
answers = refl

-- the highest task goes through its nodes in order, each of the others from the first to the third,
-- and back to the second
abbrev pub high : Way
high =
    record {
      addresses = 0x3010 ∷ 0x3020 ∷ 0x3030 ∷ 0x3040 ∷ [];
      instructions = Jal 0 (pos 16) ∷ Jal 0 (pos 16) ∷ Jal 0 (pos 16) ∷ Ecall ∷ [];
      successors = Some 1 ∷ Some 2 ∷ Some 3 ∷ None ∷ [];
      walks = [] ∷ (0 ∷ []) ∷ (1 ∷ 0 ∷ []) ∷ (2 ∷ 1 ∷ 0 ∷ []) ∷ [];
    }

abbrev pub lower : ℕ → Way
lower entry =
    record {
      addresses = entry ∷ (entry + 4) ∷ (entry + 16) ∷ (entry + 20) ∷ [];
      instructions = Jal 0 (pos 16) ∷ Jal 0 (pos 16) ∷ Jal 0 (negsuc 11) ∷ Ecall ∷ [];
      successors = Some 2 ∷ Some 3 ∷ Some 1 ∷ None ∷ [];
      walks = [] ∷ (2 ∷ 0 ∷ []) ∷ (0 ∷ []) ∷ (1 ∷ 2 ∷ 0 ∷ []) ∷ [];
    }

pub high_way : IsWay high
high_way = record { some = omega arith; start = refl; walks = refl; steps = refl }

pub lower_way : (entry : ℕ) → IsWay (lower entry)
lower_way entry = record { some = omega arith; start = refl; walks = refl; steps = refl }

code_high : IsCode (word_at code.images) 0x3010 high
unfolding word_at flow ins_of_word table
code_high =
    record {
      entry_at = refl;
      at =
          four (IsAt (word_at code.images) 0x3010 high)
          (record { goes = refl; no_error = refl; decodes = refl })
          (record { goes = refl; no_error = refl; decodes = refl })
          (record { goes = refl; no_error = refl; decodes = refl })
          (record { goes = refl; no_error = refl; decodes = refl });
      one_number = refl;
    }

code_middle : IsCode (word_at code.images) 0x2010 (lower 0x2010)
unfolding word_at flow ins_of_word table
code_middle =
    record {
      entry_at = refl;
      at =
          four (IsAt (word_at code.images) 0x2010 (lower 0x2010))
          (record { goes = refl; no_error = refl; decodes = refl })
          (record { goes = refl; no_error = refl; decodes = refl })
          (record { goes = refl; no_error = refl; decodes = refl })
          (record { goes = refl; no_error = refl; decodes = refl });
      one_number = refl;
    }

code_low : IsCode (word_at code.images) 0x1030 (lower 0x1030)
unfolding word_at flow ins_of_word table
code_low =
    record {
      entry_at = refl;
      at =
          four (IsAt (word_at code.images) 0x1030 (lower 0x1030))
          (record { goes = refl; no_error = refl; decodes = refl })
          (record { goes = refl; no_error = refl; decodes = refl })
          (record { goes = refl; no_error = refl; decodes = refl })
          (record { goes = refl; no_error = refl; decodes = refl });
      one_number = refl;
    }

graphs_of : (k : ℕ) → k < 3 → IsGraphOf (word_at code.images) (plan_of system k) (graphs k)
graphs_of =
    three (λ k. IsGraphOf (word_at code.images) (plan_of system k) (graphs k))
    (is_graph_of (word_at code.images) 0x3010 high high_way code_high)
    (is_graph_of (word_at code.images) 0x2010 (lower 0x2010) (lower_way 0x2010) code_middle)
    (is_graph_of (word_at code.images) 0x1030 (lower 0x1030) (lower_way 0x1030) code_low)

is_set : IsTaskSet set
is_set =
    record {
      platform = is_platform 8 (omega arith) (omega arith);
      some = omega arith;
      few = omega arith;
      each = λ i d l.
          three (λ k. IsTaskSpec (slice_index_or set.tasks k d))
          (is_task high_name 10000 refl refl (omega arith) (omega arith))
          (is_task middle_name 10000 refl refl (omega arith) (omega arith))
          (is_task low_name 10000 refl refl (omega arith) (omega arith)) i l;
      names = λ i j d a b.
          three_pairs
          (λ x y. HaveOwnNames (slice_index_or set.tasks x d) (slice_index_or set.tasks y d))
          (λ e. let n = ap (length {A = ℕ}) e in absurd (omega (arith, n)))
          (λ e. let n = ap (length {A = ℕ}) e in absurd (omega (arith, n)))
          (λ e. let n = ap (length {A = ℕ}) e in absurd (omega (arith, n))) i j a b;
    }

-- the highest task has no hit, and each other one two: at the second visit of either line
high_certified : IsCertified platform high 50 one_to_four nothing (50 ∷ 37 ∷ 24 ∷ 11 ∷ [])
unfolding work_cost flow
high_certified = record {
  evicts = refl;
  reuses = refl;
  pays = refl;
  ends = refl;
  first = omega arith;
  count = refl;
}

middle_certified : IsCertified platform (lower 0x2010) 30 one_and_two one_and_two
    (30 ∷ 4 ∷ 17 ∷ 1 ∷ [])
unfolding work_cost flow
middle_certified = record {
  evicts = refl;
  reuses = refl;
  pays = refl;
  ends = refl;
  first = omega arith;
  count = refl;
}

low_certified : IsCertified platform (lower 0x1030) 30 three_and_four three_and_four
    (30 ∷ 4 ∷ 17 ∷ 1 ∷ [])
unfolding work_cost flow
low_certified = record {
  evicts = refl;
  reuses = refl;
  pays = refl;
  ends = refl;
  first = omega arith;
  count = refl;
}

is_yes : IsYes set graphs certificate
is_yes i k l =
    three (λ j. (clause : Clause) → ClauseHolds set graphs certificate j clause)
    (all_hold set graphs certificate 0 (omega arith) refl refl refl
    (named_holds platform (lines 0x3010)
    (first_alone 50 one_to_four nothing (50 ∷ 37 ∷ 24 ∷ 11 ∷ []) 55) high_name
    (part_holds platform high 50 one_to_four nothing (50 ∷ 37 ∷ 24 ∷ 11 ∷ []) 55 high_way
    high_certified))
    (omega arith) (omega arith) refl (omega arith))
    (all_hold set graphs certificate 1 (omega arith) refl refl refl
    (named_holds platform (there_again 0x2010)
    (first_alone 30 one_and_two one_and_two (30 ∷ 4 ∷ 17 ∷ 1 ∷ []) 115) middle_name
    (part_holds platform (lower 0x2010) 30 one_and_two one_and_two (30 ∷ 4 ∷ 17 ∷ 1 ∷ []) 115
    (lower_way 0x2010) middle_certified))
    (omega arith) (subst (λ x. x ≤ 115) (sym demand_middle) (omega arith)) refl (omega arith))
    (all_hold set graphs certificate 2 (omega arith) refl refl refl
    (named_holds platform (there_again 0x1030)
    (first_alone 30 three_and_four three_and_four (30 ∷ 4 ∷ 17 ∷ 1 ∷ []) 175) low_name
    (part_holds platform (lower 0x1030) 30 three_and_four three_and_four (30 ∷ 4 ∷ 17 ∷ 1 ∷ []) 175
    (lower_way 0x1030) low_certified))
    (omega arith) (subst (λ x. x ≤ 175) (sym demand_low) (omega arith)) refl (omega arith))
    i l k

is_legal : IsLegalRun set start
is_legal =
    record {
      cache = omega arith;
      memory = tt;
      tasks = λ i d l.
          three (λ k. (slice_index_or start.lines k d).task.0 < 3) (omega arith) (omega arith)
          (omega arith) i l;
      legal = record {
        spaced = λ i j d a b.
            three_pairs
            (λ x y. AreSpaced set (slice_index_or start.lines x d) (slice_index_or start.lines y d))
            (λ e. absurd (omega (arith, e))) (λ e. absurd (omega (arith, e)))
            (λ e. absurd (omega (arith, e))) i j a b;
        in_time = λ i d l.
            three (λ k. IsReleasedInTime set (slice_index_or start.lines k d))
            (omega arith, omega arith) (omega arith, omega arith) (omega arith, omega arith) i l;
      };
    }

kept : IsKept (state start 180)
unfolding word_at ins_of_word table work_cost next_pc written memory_after watch_step flow ins_at
    candidate turn_after_step is_ready comes_before
kept i d l =
    three (λ k. is_unbroken (slice_index_or (state start 180).jobs k d).watch ≡ true) refl
    refl refl i l

-- one step before they complete, the jobs are open in a kept state
kept_at_116 : IsKept (state start 116)
unfolding word_at ins_of_word table work_cost next_pc written memory_after watch_step flow ins_at
    candidate turn_after_step is_ready comes_before
kept_at_116 i d l =
    three (λ k. is_unbroken (slice_index_or (state start 116).jobs k d).watch ≡ true) refl
    refl refl i l

kept_at_145 : IsKept (state start 145)
unfolding word_at ins_of_word table work_cost next_pc written memory_after watch_step flow ins_at
    candidate turn_after_step is_ready comes_before
kept_at_145 i d l =
    three (λ k. is_unbroken (slice_index_or (state start 145).jobs k d).watch ≡ true) refl
    refl refl i l

kept_at_174 : IsKept (state start 174)
unfolding word_at ins_of_word table work_cost next_pc written memory_after watch_step flow ins_at
    candidate turn_after_step is_ready comes_before
kept_at_174 i d l =
    three (λ k. is_unbroken (slice_index_or (state start 174).jobs k d).watch ≡ true) refl
    refl refl i l

high_least : (others : List ℕ) → IsSafe system set others → 55 ≤ slice_index others 0
unfolding word_at ins_of_word table work_cost next_pc written memory_after watch_step flow ins_at
    candidate turn_after_step is_ready comes_before
high_least others safe =
    elim (cases_lt (slice_index others 0) 55) [
      | inl l ↦
          absurd (safe start 116 refl is_legal kept_at_116 2 no_job (omega arith)
          (omega (arith, l), λ q. q))
      | inr g ↦ g
    ]

middle_least : (others : List ℕ) → IsSafe system set others → 115 ≤ slice_index others 1
unfolding word_at ins_of_word table work_cost next_pc written memory_after watch_step flow ins_at
    candidate turn_after_step is_ready comes_before
middle_least others safe =
    elim (cases_lt (slice_index others 1) 115) [
      | inl l ↦
          absurd (safe start 145 refl is_legal kept_at_145 1 no_job (omega arith)
          (omega (arith, l), λ q. q))
      | inr g ↦ g
    ]

low_least : (others : List ℕ) → IsSafe system set others → 175 ≤ slice_index others 2
unfolding word_at ins_of_word table work_cost next_pc written memory_after watch_step flow ins_at
    candidate turn_after_step is_ready comes_before
low_least others safe =
    elim (cases_lt (slice_index others 2) 175) [
      | inl l ↦
          absurd (safe start 174 refl is_legal kept_at_174 0 no_job (omega arith)
          (omega (arith, l), λ q. q))
      | inr g ↦ g
    ]

least : AreLeast system set (55 ∷ 115 ∷ 175 ∷ [])
least others safe =
    three (λ k. slice_index (55 ∷ 115 ∷ 175 ∷ []) k ≤ slice_index others k) (high_least others safe)
    (middle_least others safe) (low_least others safe)

-- the words all end before the address at which jobs end
is_map : IsCodeMap (word_at code.images)
is_map = low_code code.images refl

pub three_tasks : CheckedCodeIsSafe → ThreeTasks
three_tasks law =
    let checked : IsChecked set code graphs certificate = record {
      ranges = is_set;
      words = is_map;
      graphs_of = graphs_of;
      says = is_yes;
    } in
    record {
      checked = checked;
      safe = law set code graphs certificate checked;
      least = least;
      legal = is_legal;
      kept = kept;
      answers = answers;
    }
