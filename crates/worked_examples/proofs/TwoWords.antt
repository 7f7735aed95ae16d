-- The premises of the laws hold of a task of two words.
use Rattle.std.proofs.Common.{ℕ, ◌+◌, ◌≤◌, pos, [], ◌∷◌, Some, None, refl, arith}
use Rattle.rv_decode.specs.declared.Ins.TheVariants.{Addi, Ecall}
use Rattle.rv_decode.specs.Flow.{flow}
use Rattle.rv_decode.specs.Table.{ins_of_word, table}
use Rattle.rv_decode.specs.Cost.{work_cost}
use Rattle.crpd_base.specs.Tasks.{period_of}
use Rattle.crpd_base.specs.Tasks.{deadline_of}
use Rattle.cert_check.specs.JudgeInput.{IsGraphOf}
use Rattle.cert_check.specs.declared.outcome.Clause.{Clause}
use Rattle.cert_check.specs.Verdict.{ClauseHolds, IsYes}
use Rattle.cert_check.proofs.Clauses.{all_hold}
use Rattle.preempt_machine.specs.Machine.{plan_of}
use Rattle.sound_laws.specs.Accepted.{IsAccepted}
use Rattle.sound_laws.specs.Headline.{YesIsSafe}
use Rattle.sound_laws.specs.Walks.{HasTaskRanges, IsCodeOf}
use Rattle.worked_examples.specs.TwoWords.{platform, words, system, set, graph, zero_alone}
use Rattle.worked_examples.specs.TwoWords.{certificate, TwoWords}
use Rattle.crpd_base.proofs.Few.{one, two}
use Rattle.worked_examples.proofs.StraightCode.{code_map}
use Rattle.worked_examples.proofs.StraightTests.{Way, IsWay, IsAt, IsCode, is_graph_of, IsCertified}
use Rattle.worked_examples.proofs.StraightTests.{part_holds}

-- from node 0 to node 1
abbrev pub way : ℕ → Way
way entry =
    record {
      addresses = entry ∷ (entry + 4) ∷ [];
      instructions = Addi 5 0 (pos 1) ∷ Ecall ∷ [];
      successors = Some 1 ∷ None ∷ [];
      walks = [] ∷ (0 ∷ []) ∷ [];
    }

pub is_way : (entry : ℕ) → IsWay (way entry)
is_way entry = record { some = omega arith; start = refl; walks = refl; steps = refl }

-- both nodes are in cache set 0; the second one is a hit
pub certified : IsCertified platform (way 0x1000) 12 zero_alone zero_alone (12 ∷ 1 ∷ [])
unfolding work_cost flow
certified = record {
  evicts = refl;
  reuses = refl;
  pays = refl;
  ends = refl;
  first = omega arith;
  count = refl;
}

code : IsCode words 0x1000 (way 0x1000)
unfolding flow ins_of_word table
code =
    record {
      entry_at = refl;
      at =
          two (IsAt words 0x1000 (way 0x1000))
          (record { goes = refl; no_error = refl; decodes = refl })
          (record { goes = refl; no_error = refl; decodes = refl });
      one_number = refl;
    }

is_code : IsCodeOf system set (λ k. graph)
is_code =
    record {
      platform = refl;
      map = code_map ((0x1000, 0x00100293) ∷ (0x1004, 0x00000073) ∷ []) refl;
      graphs_of =
          one (λ k. IsGraphOf words (plan_of system k) graph)
          (is_graph_of words 0x1000 (way 0x1000) (is_way 0x1000) code);
    }

in_range : HasTaskRanges set
in_range =
    record {
      hit = omega arith;
      sets = omega arith;
      few_sets = omega arith;
      periods = one (λ k. 1 ≤ period_of set k) (omega arith);
      deadlines = one (λ k. deadline_of set k ≤ period_of set k) (omega arith);
    }

is_yes : IsYes set (λ k. graph) certificate
is_yes i k l =
    one (λ j. (clause : Clause) → ClauseHolds set (λ k. graph) certificate j clause)
    (all_hold set (λ k. graph) certificate 0 (omega arith) refl refl refl
    (part_holds platform (way 0x1000) 12 zero_alone zero_alone (12 ∷ 1 ∷ []) 17
    (is_way 0x1000) certified)
    (omega arith) (omega arith) refl (omega arith))
    i l k

pub two_words : YesIsSafe → TwoWords
two_words law =
    let accepted : IsAccepted system set (λ k. graph) certificate = record {
      in_range = in_range;
      code = is_code;
      says = is_yes;
    } in
    record { accepted = accepted; safe = law system set (λ k. graph) certificate accepted }
