-- The premises of the laws hold with switches that wait, a late task and a delay by ECB-union.
use Rattle.std.proofs.Common.{◌≡◌, ℕ, ◌<◌, ◌≤◌, true, List, [], ◌∷◌, length, refl, sym, ap, subst}
use Rattle.std.proofs.Common.{arith, slice_index_or}
use Rattle.crpd_base.specs.declared.data.Method.{Method}
use Rattle.crpd_base.specs.declared.data.Platform.{Platform}
use Rattle.crpd_base.specs.declared.data.TaskPart.{TaskPart}
use Rattle.crpd_base.specs.declared.data.Method.TheVariants.{Ucb, Ecb}
use Rattle.crpd_base.specs.Ranges.{IsPlatform, IsTaskSpec, HaveOwnNames, IsTaskSet}
use Rattle.code_map.specs.Words.{word_at}
use Rattle.crpd_base.specs.Arrivals.{AreSpaced, IsReleasedInTime}
use Rattle.rv_decode.specs.Flow.{flow}
use Rattle.rv_decode.specs.Table.{ins_of_word, table}
use Rattle.rv_decode.specs.Cost.{work_cost}
use Rattle.rv_core.specs.Effect.{next_pc, written, memory_after}
use Rattle.flow_watch.specs.Watch.{step as watch_step, is_unbroken}
use Rattle.cert_check.specs.JudgeInput.{certified_part, longest_at, window_at}
use Rattle.cert_check.specs.declared.outcome.Clause.{Clause}
use Rattle.cert_check.specs.declared.outcome.Clause.TheVariants.{Leaders}
use Rattle.cert_check.specs.Verdict.{ClauseHolds, GraphHolds, IsYes}
use Rattle.loop_regions.specs.TaskGraph.{TaskGraph}
use Rattle.cert_check.proofs.Clauses.{all_hold}
use Rattle.delay_count.specs.Demand.{demand}
use Rattle.delay_count.specs.Gamma.{shared_count}
use Rattle.preempt_machine.specs.declared.End.TheVariants.{Answered}
use Rattle.preempt_machine.specs.Machine.{ins_at}
use Rattle.preempt_machine.specs.Step.{state, candidate, turn_after_step, is_ready, comes_before}
use Rattle.preempt_machine.specs.Safe.{IsLegalRun, IsKept, completions}
use Rattle.run_account.specs.Ledger.{IsWindowStart}
use Rattle.sound_laws.specs.Accepted.{IsChecked}
use Rattle.sound_laws.specs.Headline.{CheckedCodeIsSafe}
use Rattle.worked_examples.specs.LateTasks.{platform, set, certificate, start, LateTasks}
use Rattle.worked_examples.specs.StraightCode.{first_alone}
use Rattle.worked_examples.specs.TwoTasks.{code, high_name, low_name, graphs}
use Rattle.worked_examples.specs.TwoWords.{graph_from, zero_alone}
use Rattle.crpd_base.proofs.Few.{two, one_pair}
use Rattle.worked_examples.proofs.InRanges.{is_platform, is_task}
use Rattle.worked_examples.proofs.LateLedger.{ledger}
use Rattle.worked_examples.proofs.StraightTests.{IsCertified, part_holds}
use Rattle.worked_examples.proofs.TwoTasks.{graphs_of, is_map}
use Rattle.worked_examples.proofs.TwoWords.{way, is_way}

demand_high : demand set (certified_part certificate) (longest_at platform graphs)
    (window_at certificate) 0 Ucb 27 ≡ 27
unfolding work_cost flow
demand_high = refl

demand_low : demand set (certified_part certificate) (longest_at platform graphs)
    (window_at certificate) 1 Ecb 59 ≡ 59
unfolding work_cost flow shared_count
demand_low = refl

answers : completions (state start 100) ≡ Answered 49 ∷ Answered 33 ∷ []
unfolding word_at ins_of_word table work_cost next_pc written memory_after watch_step flow ins_at
    candidate turn_after_step is_ready comes_before
answers = refl

waits : IsPlatform platform
waits =
    let h = is_platform 4 (omega arith) (omega arith) in
    record {
      line = h.line;
      line_size = h.line_size;
      sets = h.sets;
      hit = h.hit;
      miss = h.miss;
      memory = h.memory;
      taken = h.taken;
      switch = h.switch;
      mul = h.mul;
      div = h.div;
    }

is_set : IsTaskSet set
is_set =
    let high = is_task high_name 100 refl refl (omega arith) (omega arith) in
    record {
      platform = waits;
      some = omega arith;
      few = omega arith;
      each = λ i d l.
          two (λ k. IsTaskSpec (slice_index_or set.tasks k d))
          (record {
            name = high.name;
            file = high.file;
            period = high.period;
            deadline = high.deadline;
            jitter = omega arith;
            few_loops = high.few_loops;
            loops = high.loops;
          })
          (is_task low_name 100 refl refl (omega arith) (omega arith)) i l;
      names = λ i j d a b.
          one_pair
          (λ x y. HaveOwnNames (slice_index_or set.tasks x d) (slice_index_or set.tasks y d))
          (λ e. let l = ap (length {A = ℕ}) e in absurd (omega (arith, l))) i j a b;
    }

low_certified : IsCertified platform (way 0x1000) 12 zero_alone zero_alone (12 ∷ 1 ∷ [])
unfolding work_cost flow
low_certified = record {
  evicts = refl;
  reuses = refl;
  pays = refl;
  ends = refl;
  first = omega arith;
  count = refl;
}

high_certified : IsCertified platform (way 0x2000) 12 zero_alone zero_alone (12 ∷ 1 ∷ [])
unfolding work_cost flow
high_certified = record {
  evicts = refl;
  reuses = refl;
  pays = refl;
  ends = refl;
  first = omega arith;
  count = refl;
}

-- the clauses of a graph do not depend on the name, the method or the response
named_so : (p : Platform) (t : TaskGraph) (c : TaskPart) (name : List ℕ) (method : Method)
    (response : ℕ) → ((k : Clause) → GraphHolds p t c k) → (k : Clause)
    → GraphHolds p t (record c { name = name; method = method; response = response }) k
named_so p t c name method response holds Leaders = holds Leaders
named_so p t c name method response holds k = holds k

is_yes : IsYes set graphs certificate
is_yes i k l =
    two (λ j. (clause : Clause) → ClauseHolds set graphs certificate j clause)
    (all_hold set graphs certificate 0 (omega arith) refl refl refl
    (named_so platform (graph_from 0x2000)
    (first_alone 12 zero_alone zero_alone (12 ∷ 1 ∷ []) 27) high_name Ucb 37
    (part_holds platform (way 0x2000) 12 zero_alone zero_alone (12 ∷ 1 ∷ []) 27
    (is_way 0x2000) high_certified))
    (omega arith) (subst (λ x. x ≤ 27) (sym demand_high) (omega arith)) refl (omega arith))
    (all_hold set graphs certificate 1 (omega arith) refl refl refl
    (named_so platform (graph_from 0x1000)
    (first_alone 12 zero_alone zero_alone (12 ∷ 1 ∷ []) 59) low_name Ecb 59
    (part_holds platform (way 0x1000) 12 zero_alone zero_alone (12 ∷ 1 ∷ []) 59
    (is_way 0x1000) low_certified))
    (omega arith) (subst (λ x. x ≤ 59) (sym demand_low) (omega arith)) refl (omega arith))
    i l k

is_legal : IsLegalRun set start
is_legal =
    record {
      cache = omega arith;
      memory = tt;
      tasks = λ i d l.
          two (λ k. (slice_index_or start.lines k d).task.0 < 2) (omega arith) (omega arith) i l;
      legal = record {
        spaced = λ i j d a b.
            one_pair
            (λ x y. AreSpaced set (slice_index_or start.lines x d) (slice_index_or start.lines y d))
            (λ e. absurd (omega (arith, e))) i j a b;
        in_time = λ i d l.
            two (λ k. IsReleasedInTime set (slice_index_or start.lines k d))
            (omega arith, omega arith) (omega arith, omega arith) i l;
      };
    }

kept : IsKept (state start 100)
unfolding word_at ins_of_word table work_cost next_pc written memory_after watch_step flow ins_at
    candidate turn_after_step is_ready comes_before
kept i d l =
    two (λ k. is_unbroken (slice_index_or (state start 100).jobs k d).watch ≡ true) refl refl i l

window : IsWindowStart start 0 0
window = record {
  by = omega arith;
  quiet = λ y b h r. absurd (omega (arith, r));
  busy = λ u l g. absurd (omega (arith, l, g));
}

pub late_tasks : CheckedCodeIsSafe → LateTasks
late_tasks law =
    let checked : IsChecked set code graphs certificate = record {
      ranges = is_set;
      words = is_map;
      graphs_of = graphs_of;
      says = is_yes;
    } in
    record {
      checked = checked;
      safe = law set code graphs certificate checked;
      legal = is_legal;
      kept = kept;
      answers = answers;
      window = window;
      ledger = ledger;
    }
