-- The refined windows of two tasks, the lower one by program point, and a run that takes them in
-- full.
use Rattle.std.proofs.Common.{◌≡◌, ℕ, zero, suc, ◌+◌, ◌<◌, ◌≤◌, true, pos}
use Rattle.std.proofs.Common.{List, [], ◌∷◌, length, Some, None, replicate, refl, ap}
use Rattle.std.proofs.Common.{inl, inr, arith, slice_index, slice_index_or, ◌^◌}
use Rattle.std.proofs.lemmas.Bool.{cases_lt}
use Rattle.crpd_base.specs.declared.data.PointMethod.{PointMethod}
use Rattle.crpd_base.specs.declared.data.PointMethod.TheVariants.{Ucb, Ecb, Point}
use Rattle.crpd_base.specs.declared.data.PointMethod.TheVariants.{PersistentUcb, PersistentPoint}
use Rattle.crpd_base.specs.declared.data.TaskPart.{TaskPart}
use Rattle.crpd_base.specs.Arrivals.{AreSpaced, IsReleasedInTime}
use Rattle.crpd_base.specs.Ranges.{IsTaskSpec, HaveOwnNames, IsTaskSet}
use Rattle.crpd_base.specs.Tasks.{jitter_of}
use Rattle.crpd_base.proofs.Few.{two, four, one_pair}
use Rattle.code_map.specs.Words.{word_at}
use Rattle.rv_decode.specs.declared.Ins.TheVariants.{Addi, Ecall}
use Rattle.rv_decode.specs.Flow.{flow, IsCodeMap}
use Rattle.rv_decode.specs.Table.{ins_of_word, table}
use Rattle.rv_decode.specs.Cost.{work_cost}
use Rattle.rv_core.specs.Effect.{next_pc, written, memory_after}
use Rattle.flow_watch.specs.Watch.{step as watch_step, is_unbroken}
use Rattle.icache.specs.Accesses.{accesses}
use Rattle.delay_count.specs.Counts.{jobs_of}
use Rattle.delay_count.specs.Gamma.{union_count, shared_count}
use Rattle.response.specs.Windows.{IsWindow}
use Rattle.cert_check.specs.JudgeInput.{IsGraphOf}
use Rattle.cert_build.specs.Best.{IsBestPart}
use Rattle.cert_build.specs.Certify.{AreBestParts, part_in}
use Rattle.evict_sets.specs.ListedPart.{no_task_part}
use Rattle.preempt_machine.specs.declared.End.TheVariants.{Answered}
use Rattle.preempt_machine.specs.Machine.{plan_of, ins_at, no_job}
use Rattle.preempt_machine.specs.Step.{state, candidate, turn_after_step, is_ready, comes_before}
use Rattle.preempt_machine.specs.Safe.{IsSafe, IsLegalRun, IsKept, completions}
use Rattle.delay_point.specs.Chosen.{RefinedParts, AreRefinedParts, IsChosen, bound_by}
use Rattle.delay_point.specs.Gamma.{SetsAtNodes, AreUsefulSets}
use Rattle.delay_point.specs.Laws.{RefinedIsSafe}
use Rattle.delay_point.specs.Refined.{AreRefined, IsRefinedWindow, bound_at, method_at, place}
use Rattle.delay_point.specs.Refined.{point_needs, window_at}
use Rattle.worked_examples.specs.Least.{AreLeast}
use Rattle.worked_examples.specs.PointTasks.{code, high_name, low_name, set, system, graphs}
use Rattle.worked_examples.specs.PointTasks.{windows, start, PointTasks}
use Rattle.worked_examples.specs.StraightCode.{first_alone}
use Rattle.worked_examples.specs.TwoWords.{platform}
use Rattle.worked_examples.proofs.InRanges.{is_platform, is_task}
use Rattle.worked_examples.proofs.LowFiles.{low_code}
use Rattle.worked_examples.proofs.StraightParts.{IsAnalysed, best_part, persistent_bound}
use Rattle.worked_examples.proofs.StraightTests.{Way, IsWay, IsAt, IsCode, is_graph_of}
use Rattle.worked_examples.proofs.StraightTests.{address}
use Rattle.worked_examples.proofs.WorkedSets.{HasRests, in_four, is_useful, useful_is}

-- each task goes through its nodes in order
abbrev high : Way
high =
    record {
      addresses = 0x200C ∷ 0x2010 ∷ [];
      instructions = Addi 5 0 (pos 1) ∷ Ecall ∷ [];
      successors = Some 1 ∷ None ∷ [];
      walks = [] ∷ (0 ∷ []) ∷ [];
    }

abbrev low : Way
low =
    record {
      addresses = 0x1008 ∷ 0x100C ∷ 0x1010 ∷ 0x1014 ∷ [];
      instructions = Addi 5 0 (pos 1) ∷ Addi 5 0 (pos 1) ∷ Addi 5 0 (pos 1) ∷ Ecall ∷ [];
      successors = Some 1 ∷ Some 2 ∷ Some 3 ∷ None ∷ [];
      walks = [] ∷ (0 ∷ []) ∷ (1 ∷ 0 ∷ []) ∷ (2 ∷ 1 ∷ 0 ∷ []) ∷ [];
    }

abbrev high_rest : ℕ → List ℕ
high_rest y = slice_index_or ((1 ∷ []) ∷ [] ∷ []) y []

abbrev low_rest : ℕ → List ℕ
low_rest y = slice_index_or ((1 ∷ 2 ∷ 3 ∷ []) ∷ (2 ∷ 3 ∷ []) ∷ (3 ∷ []) ∷ [] ∷ []) y []

high_way : IsWay high
high_way = record { some = omega arith; start = refl; walks = refl; steps = refl }

low_way : IsWay low
low_way = record { some = omega arith; start = refl; walks = refl; steps = refl }

high_rests : HasRests high high_rest
high_rests = record { on = refl; steps = refl }

low_rests : HasRests low low_rest
low_rests = record { on = refl; steps = refl }

high_below : (x : ℕ) → (accesses platform (address high)).set x < platform.sets
high_below x = in_four _

low_below : (x : ℕ) → (accesses platform (address low)).set x < platform.sets
low_below x = in_four _

-- the cache sets 0 and 1, and none
abbrev both : List ℕ
both = 3 ∷ replicate 7 0

abbrev none : List ℕ
none = replicate 8 0

-- both lines of the higher task are loaded once; the lower one uses each of its lines again
high_analysed : IsAnalysed high high_way high_rest high_rests platform high_below 22 both none
    (22 ∷ 11 ∷ []) (0 ∷ 1 ∷ []) []
unfolding work_cost flow
high_analysed =
    record {
      certified = record {
        evicts = refl;
        reuses = refl;
        pays = refl;
        ends = refl;
        first = omega arith;
        count = refl;
      };
      exact = refl;
      bound_is = refl;
      evicts = refl;
      reuses = refl;
      tested = record { some_sets = refl; evicts = refl; reuses = refl };
      first = λ window. (omega arith, refl, refl, refl, refl);
    }

low_analysed : IsAnalysed low low_way low_rest low_rests platform low_below 24 both both
    (24 ∷ 13 ∷ 12 ∷ 1 ∷ []) (0 ∷ 1 ∷ []) (0 ∷ 1 ∷ [])
unfolding work_cost flow
low_analysed =
    record {
      certified = record {
        evicts = refl;
        reuses = refl;
        pays = refl;
        ends = refl;
        first = omega arith;
        count = refl;
      };
      exact = refl;
      bound_is = refl;
      evicts = refl;
      reuses = refl;
      tested = record { some_sets = refl; evicts = refl; reuses = refl };
      first = λ window. (omega arith, refl, refl, refl, refl);
    }

-- the sets that are useful at each node: at most one
abbrev useful : SetsAtNodes
useful zero = is_useful high high_way high_rest high_rests platform high_below
useful (suc k) = is_useful low low_way low_rest low_rests platform low_below

abbrev analysed : List TaskPart
analysed =
    first_alone 22 both none (22 ∷ 11 ∷ []) 27
    ∷ first_alone 24 both both (24 ∷ 13 ∷ 12 ∷ 1 ∷ []) 71 ∷ []

-- without loops the chosen parts are the plain ones
abbrev parts : RefinedParts
parts = record {
  analysed = analysed;
  useful = useful;
  chosen = record { part = part_in analysed; useful = useful };
}

best : AreBestParts set graphs analysed
best =
    record {
      tasks = refl;
      each =
          two (λ k. IsBestPart platform (graphs k) (slice_index_or analysed k no_task_part))
          (best_part high high_way high_rest high_rests platform high_below 22 both none
          (22 ∷ 11 ∷ []) (0 ∷ 1 ∷ []) [] high_analysed 27)
          (best_part low low_way low_rest low_rests platform low_below 24 both both
          (24 ∷ 13 ∷ 12 ∷ 1 ∷ []) (0 ∷ 1 ∷ []) (0 ∷ 1 ∷ []) low_analysed 71);
      within = two (λ k. (part_in analysed k).bound ≤ 2 ^ 40) (omega arith) (omega arith);
    }

useful_sets : AreUsefulSets set graphs useful
useful_sets zero y c l h =
    let is = useful_is high high_way high_rest high_rests platform high_below y c h in
    (λ t. is.1 t, λ u. is.0 u)
useful_sets (suc zero) y c l h =
    let is = useful_is low low_way low_rest low_rests platform low_below y c h in
    (λ t. is.1 t, λ u. is.0 u)
useful_sets (suc (suc k)) y c l h = absurd (omega (arith, l))

are_parts : AreRefinedParts set graphs parts
are_parts =
    record {
      best = best;
      useful = useful_sets;
      chosen =
          two
          (λ k. IsChosen platform (graphs k) (part_in analysed k) (useful k) (part_in analysed k)
          (useful k))
          (inr (record {
            bound = 22;
            persistent =
                persistent_bound high high_way high_rest high_rests platform high_below 22 both none
                (22 ∷ 11 ∷ []) (0 ∷ 1 ∷ []) [] high_analysed;
            no_smaller = omega arith;
            part_is = refl;
            sets_are = λ y s l. refl;
          }))
          (inr (record {
            bound = 24;
            persistent =
                persistent_bound low low_way low_rest low_rests platform low_below 24 both both
                (24 ∷ 13 ∷ 12 ∷ 1 ∷ []) (0 ∷ 1 ∷ []) (0 ∷ 1 ∷ []) low_analysed;
            no_smaller = omega arith;
            part_is = refl;
            sets_are = λ y s l. refl;
          }));
    }

-- the demand of a window of each task by each method: that of the higher task has no other jobs,
-- and that of the lower one has one job of the higher, with one reload or two
abbrev needs : ℕ → PointMethod → ℕ → ℕ
needs = point_needs set graphs parts (window_at windows)

high_needs : (m : PointMethod) (v : ℕ) → needs 0 m v ≡ 27
high_needs Ucb v = refl
high_needs Ecb v = refl
high_needs Point v = refl
high_needs PersistentUcb v = refl
high_needs PersistentPoint v = refl

one_job : (v : ℕ) → 1 ≤ v → v ≤ 100 → jobs_of set 0 v ≡ 1
one_job v some few = omega arith

abbrev lower_demand : PointMethod → ℕ
lower_demand Ucb = 81
lower_demand Ecb = 81
lower_demand Point = 71
lower_demand PersistentUcb = 81
lower_demand PersistentPoint = 71

low_needs : (m : PointMethod) (v : ℕ) → jobs_of set 0 v ≡ 1 → needs 1 m v ≡ lower_demand m
unfolding union_count shared_count
low_needs Ucb v e = rw e refl
low_needs Ecb v e = rw e refl
low_needs Point v e = rw e refl
low_needs PersistentUcb v e = rw e refl
low_needs PersistentPoint v e = rw e refl

demand_most : (m : PointMethod) → lower_demand m ≤ 81
demand_most Ucb = omega arith
demand_most Ecb = omega arith
demand_most Point = omega arith
demand_most PersistentUcb = omega arith
demand_most PersistentPoint = omega arith

demand_least : (m : PointMethod) → 71 ≤ lower_demand m
demand_least Ucb = omega arith
demand_least Ecb = omega arith
demand_least Point = omega arith
demand_least PersistentUcb = omega arith
demand_least PersistentPoint = omega arith

-- a window that holds it is at least as long
at_least : (m : PointMethod) (v : ℕ) → 1 ≤ v → needs 1 m v ≤ v → lower_demand m ≤ v
at_least m v some enough =
    let most = demand_most m in
    elim (cases_lt 100 v) [
      | inl l ↦ omega arith
      | inr g ↦ let e = low_needs m v (one_job v some g) in omega (arith, e, enough)
    ]

high_window : IsRefinedWindow set (needs 0) 0 Ucb 27
high_window =
    record {
      window = record {
        some = omega arith;
        enough = let e = high_needs Ucb 27 in omega (arith, e);
        in_deadline = omega arith;
        least = λ v some enough. let e = high_needs Ucb v in omega (arith, e, enough);
      };
      least = λ m v W. let e = high_needs m v in let enough = W.enough in omega (arith, e, enough);
      first = λ m v before W. absurd (omega arith);
    }

later_first : (m : PointMethod) (v : ℕ) → place m < 2 → IsWindow set (needs 1 m) 1 v → 71 < v
later_first Ucb v l W = let some = at_least Ucb v W.some W.enough in omega (arith, some)
later_first Ecb v l W = let some = at_least Ecb v W.some W.enough in omega (arith, some)
later_first Point v l W = absurd (omega (arith, l))
later_first PersistentUcb v l W = absurd (omega (arith, l))
later_first PersistentPoint v l W = absurd (omega (arith, l))

low_window : IsRefinedWindow set (needs 1) 1 Point 71
low_window =
    record {
      window = record {
        some = omega arith;
        enough =
            let e = low_needs Point 71 (one_job 71 (omega arith) (omega arith)) in omega (arith, e);
        in_deadline = omega arith;
        least = λ v some enough. at_least Point v some enough;
      };
      least = λ m v W.
          let some = at_least m v W.some W.enough in
          let least = demand_least m in
          omega (arith, some, least);
      first = later_first;
    }

refined : AreRefined set graphs windows
refined =
    record {
      parts = parts;
      are = are_parts;
      by = record {
        size = refl;
        bound = two (λ i. bound_at windows i ≡ bound_by parts i (method_at windows i)) refl refl;
        window =
            two (λ i. IsRefinedWindow set (needs i) i (method_at windows i) (window_at windows i))
            high_window low_window;
        response =
            two (λ i. slice_index (27 ∷ 71 ∷ []) i ≡ window_at windows i + jitter_of set i) refl
            refl;
      };
    }

code_high : IsCode (word_at code.images) 0x200C high
unfolding word_at flow ins_of_word table
code_high =
    record {
      entry_at = refl;
      at =
          two (IsAt (word_at code.images) 0x200C high)
          (record { goes = refl; no_error = refl; decodes = refl })
          (record { goes = refl; no_error = refl; decodes = refl });
      one_number = refl;
    }

code_low : IsCode (word_at code.images) 0x1008 low
unfolding word_at flow ins_of_word table
code_low =
    record {
      entry_at = refl;
      at =
          four (IsAt (word_at code.images) 0x1008 low)
          (record { goes = refl; no_error = refl; decodes = refl })
          (record { goes = refl; no_error = refl; decodes = refl })
          (record { goes = refl; no_error = refl; decodes = refl })
          (record { goes = refl; no_error = refl; decodes = refl });
      one_number = refl;
    }

graphs_of : (k : ℕ) → k < 2 → IsGraphOf (word_at code.images) (plan_of system k) (graphs k)
graphs_of =
    two (λ k. IsGraphOf (word_at code.images) (plan_of system k) (graphs k))
    (is_graph_of (word_at code.images) 0x200C high high_way code_high)
    (is_graph_of (word_at code.images) 0x1008 low low_way code_low)

is_set : IsTaskSet set
is_set =
    record {
      platform = is_platform 4 (omega arith) (omega arith);
      some = omega arith;
      few = omega arith;
      each = λ i d l.
          two (λ k. IsTaskSpec (slice_index_or set.tasks k d))
          (is_task high_name 100 refl refl (omega arith) (omega arith))
          (is_task low_name 100 refl refl (omega arith) (omega arith)) i l;
      names = λ i j d a b.
          one_pair
          (λ x y. HaveOwnNames (slice_index_or set.tasks x d) (slice_index_or set.tasks y d))
          (λ e. let l = ap (length {A = ℕ}) e in absurd (omega (arith, l))) i j a b;
    }

-- the words all end before the address at which jobs end
is_map : IsCodeMap (word_at code.images)
is_map = low_code code.images refl

answers : completions (state start 100) ≡ Answered 71 ∷ Answered 43 ∷ []
unfolding word_at ins_of_word table work_cost next_pc written memory_after watch_step flow ins_at
    candidate turn_after_step is_ready comes_before
answers = refl

is_legal : IsLegalRun set start
is_legal =
    record {
      cache = omega arith;
      memory = tt;
      tasks = λ i d l.
          two (λ k. (slice_index_or start.lines k d).task.0 < 2) (omega arith) (omega arith) i l;
      legal = record {
        spaced = λ i j d a b.
            one_pair
            (λ x y. AreSpaced set (slice_index_or start.lines x d) (slice_index_or start.lines y d))
            (λ e. absurd (omega (arith, e))) i j a b;
        in_time = λ i d l.
            two (λ k. IsReleasedInTime set (slice_index_or start.lines k d))
            (omega arith, omega arith) (omega arith, omega arith) i l;
      };
    }

kept : IsKept (state start 100)
unfolding word_at ins_of_word table work_cost next_pc written memory_after watch_step flow ins_at
    candidate turn_after_step is_ready comes_before
kept i d l =
    two (λ k. is_unbroken (slice_index_or (state start 100).jobs k d).watch ≡ true) refl refl i l

-- one step before they complete, the jobs are open in a kept state
kept_at_42 : IsKept (state start 42)
unfolding word_at ins_of_word table work_cost next_pc written memory_after watch_step flow ins_at
    candidate turn_after_step is_ready comes_before
kept_at_42 i d l =
    two (λ k. is_unbroken (slice_index_or (state start 42).jobs k d).watch ≡ true) refl refl i l

kept_at_70 : IsKept (state start 70)
unfolding word_at ins_of_word table work_cost next_pc written memory_after watch_step flow ins_at
    candidate turn_after_step is_ready comes_before
kept_at_70 i d l =
    two (λ k. is_unbroken (slice_index_or (state start 70).jobs k d).watch ≡ true) refl refl i l

high_least : (others : List ℕ) → IsSafe system set others → 27 ≤ slice_index others 0
unfolding word_at ins_of_word table work_cost next_pc written memory_after watch_step flow ins_at
    candidate turn_after_step is_ready comes_before
high_least others safe =
    elim (cases_lt (slice_index others 0) 27) [
      | inl l ↦
          absurd (safe start 42 refl is_legal kept_at_42 1 no_job (omega arith)
          (omega (arith, l), λ q. q))
      | inr g ↦ g
    ]

low_least : (others : List ℕ) → IsSafe system set others → 71 ≤ slice_index others 1
unfolding word_at ins_of_word table work_cost next_pc written memory_after watch_step flow ins_at
    candidate turn_after_step is_ready comes_before
low_least others safe =
    elim (cases_lt (slice_index others 1) 71) [
      | inl l ↦
          absurd (safe start 70 refl is_legal kept_at_70 0 no_job (omega arith)
          (omega (arith, l), λ q. q))
      | inr g ↦ g
    ]

least : AreLeast system set (27 ∷ 71 ∷ [])
least others safe =
    two (λ k. slice_index (27 ∷ 71 ∷ []) k ≤ slice_index others k) (high_least others safe)
    (low_least others safe)

pub point_tasks : RefinedIsSafe → PointTasks
point_tasks law =
    record {
      refined = refined;
      safe = law set code graphs windows is_set is_map graphs_of refined;
      least = least;
      legal = is_legal;
      kept = kept;
      answers = answers;
    }
