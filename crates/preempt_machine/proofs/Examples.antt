-- Runs of small programs, by computation.
use Rattle.std.proofs.Common.{◌≡◌, ◌⊎◌, ℕ, zero, suc, ◌+◌, ◌<◌, Bool, inl, inr, lit<, lit≤, arith}
use Rattle.std.proofs.Common.{true, false, map, refl, List, [], ◌∷◌, Option, Some, None}
use Rattle.std.specs.Prelude.{◌==◌, nat_lt, if◌then◌else◌}
use Rattle.crpd_base.specs.declared.data.Platform.{Platform}
use Rattle.crpd_base.specs.declared.data.Switching.{Switching}
use Rattle.crpd_base.specs.declared.data.Switching.TheVariants.{Cycle, Instruction}
use Rattle.crpd_base.specs.declared.data.ScriptJob.{ScriptJob}
use Rattle.crpd_base.specs.declared.data.TaskPlan.{TaskPlan}
use Rattle.rv_decode.specs.Flow.{flow}
use Rattle.rv_decode.specs.Table.{ins_of_word, table}
use Rattle.rv_decode.specs.Cost.{work_cost}
use Rattle.rv_core.specs.Effect.{next_pc, written, memory_after}
use Rattle.flow_watch.specs.Watch.{step as watch_step, is_unbroken}
use Rattle.preempt_machine.specs.declared.End.TheVariants.{Unreleased, Open, Answered, Faulted}
use Rattle.preempt_machine.specs.Machine.{System, Machine, Job, ins_at, start_machine}
use Rattle.preempt_machine.specs.Step.{run, candidate, turn_after_step, fetch, is_ready}
use Rattle.preempt_machine.specs.Step.{comes_before}
use Rattle.preempt_machine.specs.Candidate.{IsReady, ComesBefore, higher, IsCandidate, the_owner}
use Rattle.preempt_machine.specs.Candidate.{the_first}
use Rattle.preempt_machine.specs.Safe.{completions}

abbrev platform : Switching → Platform
platform switching =
    record {
      line = 16;
      sets = 4;
      hit = 1;
      miss = 10;
      memory = 3;
      taken = 2;
      switch = 5;
      mul = 0;
      div = 0;
      switching = switching;
    }

-- the words from an address on
abbrev words : ℕ → List ℕ → ℕ → Option ℕ
words at [] a = None
words at (w ∷ ws) a = if a == at then Some w else words (at + 4) ws a

abbrev find_word : ℕ → List (ℕ × ℕ) → Option ℕ
find_word a [] = None
find_word a (e ∷ es) = if a == e.0 then Some e.1 else find_word a es

abbrev plan : ℕ → TaskPlan
plan entry = record { entry = entry; stack = 0; global = 0; loops = [] }

abbrev line : ℕ → ℕ → ScriptJob
line t at = record { task = record { 0 = t }; arrival = at; release = at }

abbrev empty : List (Option ℕ)
empty = None ∷ None ∷ None ∷ None ∷ []

abbrev alone : System
alone = record {
  platform = platform Cycle;
  plans = plan 0x1000 ∷ [];
  word = words 0x1000 (0x00100293 ∷ 0x00000073 ∷ []);
}

alone_at_16 : completions (run alone (start_machine alone empty [] (line 0 0 ∷ [])) 16) ≡ Open ∷ []
unfolding ins_of_word table work_cost next_pc written memory_after watch_step flow ins_at candidate
    turn_after_step is_ready comes_before
alone_at_16 = refl

alone_at_17 : completions (run alone (start_machine alone empty [] (line 0 0 ∷ [])) 17)
    ≡ Answered 17 ∷ []
unfolding ins_of_word table work_cost next_pc written memory_after watch_step flow ins_at candidate
    turn_after_step is_ready comes_before
alone_at_17 = refl

-- a warm cache; alone jobs of which the second comes too early; an unreleased job
alone_warm : completions
    (run alone (start_machine alone (Some 256 ∷ None ∷ None ∷ None ∷ []) [] (line 0 0 ∷ [])) 7)
    ≡ Answered 7 ∷ []
unfolding ins_of_word table work_cost next_pc written memory_after watch_step flow ins_at candidate
    turn_after_step is_ready comes_before
alone_warm = refl

alone_twice : completions (run alone (start_machine alone empty [] (line 0 0 ∷ line 0 99 ∷ [])) 200)
    ≡ Answered 17 ∷ Answered 106 ∷ []
unfolding ins_of_word table work_cost next_pc written memory_after watch_step flow ins_at candidate
    turn_after_step is_ready comes_before
alone_twice = refl

alone_unreleased : completions (run alone (start_machine alone empty [] (line 0 300 ∷ [])) 200)
    ≡ Unreleased ∷ []
unfolding ins_of_word table work_cost next_pc written memory_after watch_step flow ins_at candidate
    turn_after_step is_ready comes_before
alone_unreleased = refl

-- a loop. With bound 2 the watch is broken
abbrev loop_plan : ℕ → TaskPlan
loop_plan bound =
    record {
      entry = 0x1000;
      stack = 0;
      global = 0;
      loops = record { head = 0x1004; bound = bound; ranges = (0x1004, 0x100C) ∷ [] } ∷ [];
    }

abbrev looped : ℕ → System
looped bound = record {
  platform = platform Cycle;
  plans = loop_plan bound ∷ [];
  word = words 0x1000 (0x00300293 ∷ 0xFFF28293 ∷ 0xFE029EE3 ∷ 0x00000073 ∷ []);
}

abbrev kept_of : Machine → List Bool
kept_of m = map (λ (job : Job). is_unbroken job.watch) m.jobs

loop_open : completions (run (looped 3) (start_machine (looped 3) empty [] (line 0 0 ∷ [])) 26)
    ≡ Open ∷ []
unfolding ins_of_word table work_cost next_pc written memory_after watch_step flow ins_at candidate
    turn_after_step is_ready comes_before
loop_open = refl

loop_answer : completions (run (looped 3) (start_machine (looped 3) empty [] (line 0 0 ∷ [])) 27)
    ≡ Answered 27 ∷ []
unfolding ins_of_word table work_cost next_pc written memory_after watch_step flow ins_at candidate
    turn_after_step is_ready comes_before
loop_answer = refl

loop_kept : kept_of (run (looped 3) (start_machine (looped 3) empty [] (line 0 0 ∷ [])) 100)
    ≡ true ∷ []
unfolding ins_of_word table work_cost next_pc written memory_after watch_step flow ins_at candidate
    turn_after_step is_ready comes_before
loop_kept = refl

loop_broken : kept_of (run (looped 2) (start_machine (looped 2) empty [] (line 0 0 ∷ [])) 100)
    ≡ false ∷ []
unfolding ins_of_word table work_cost next_pc written memory_after watch_step flow ins_at candidate
    turn_after_step is_ready comes_before
loop_broken = refl

loop_broken_answer : completions
    (run (looped 2) (start_machine (looped 2) empty [] (line 0 0 ∷ [])) 100) ≡ Answered 27 ∷ []
unfolding ins_of_word table work_cost next_pc written memory_after watch_step flow ins_at candidate
    turn_after_step is_ready comes_before
loop_broken_answer = refl

-- a preemption
abbrev pair : Switching → System
pair switching =
    record {
      platform = platform switching;
      plans = plan 0x2000 ∷ plan 0x1000 ∷ [];
      word = λ a.
          if nat_lt a 0x2000 then words 0x1000 (0x00100293 ∷ 0x00000073 ∷ []) a
          else words 0x2000 (0x00100293 ∷ 0x00000073 ∷ []) a;
    }

pair_run : completions
    (run (pair Cycle) (start_machine (pair Cycle) empty [] (line 1 0 ∷ line 0 16 ∷ [])) 100)
    ≡ Answered 49 ∷ Answered 33 ∷ []
unfolding ins_of_word table work_cost next_pc written memory_after watch_step flow ins_at candidate
    turn_after_step is_ready comes_before
pair_run = refl

pair_inside_an_instruction : completions
    (run (pair Cycle) (start_machine (pair Cycle) empty [] (line 1 0 ∷ line 0 15 ∷ [])) 100)
    ≡ Answered 49 ∷ Answered 32 ∷ []
unfolding ins_of_word table work_cost next_pc written memory_after watch_step flow ins_at candidate
    turn_after_step is_ready comes_before
pair_inside_an_instruction = refl

pair_released_together : completions
    (run (pair Cycle) (start_machine (pair Cycle) empty [] (line 1 0 ∷ line 0 0 ∷ [])) 100)
    ≡ Answered 34 ∷ Answered 17 ∷ []
unfolding ins_of_word table work_cost next_pc written memory_after watch_step flow ins_at candidate
    turn_after_step is_ready comes_before
pair_released_together = refl

between_instructions_at_6 : completions
    (run (pair Instruction) (start_machine (pair Instruction) empty [] (line 1 0 ∷ line 0 6 ∷ []))
    100) ≡ Answered 49 ∷ Answered 33 ∷ []
unfolding ins_of_word table work_cost next_pc written memory_after watch_step flow ins_at candidate
    turn_after_step is_ready comes_before
between_instructions_at_6 = refl

between_instructions_at_15 : completions
    (run (pair Instruction) (start_machine (pair Instruction) empty [] (line 1 0 ∷ line 0 15 ∷ []))
    100) ≡ Answered 49 ∷ Answered 33 ∷ []
unfolding ins_of_word table work_cost next_pc written memory_after watch_step flow ins_at candidate
    turn_after_step is_ready comes_before
between_instructions_at_15 = refl

pair_at_every_cycle : completions
    (run (pair Cycle) (start_machine (pair Cycle) empty [] (line 1 0 ∷ line 0 6 ∷ [])) 100)
    ≡ Answered 49 ∷ Answered 23 ∷ []
unfolding ins_of_word table work_cost next_pc written memory_after watch_step flow ins_at candidate
    turn_after_step is_ready comes_before
pair_at_every_cycle = refl

-- in the middle of an instruction the owner keeps the core if switches wait; otherwise the higher
-- job is the candidate
abbrev after_7 : Switching → Machine
after_7 switching =
    run (pair switching) (start_machine (pair switching) empty [] (line 1 0 ∷ line 0 6 ∷ [])) 7

owner_keeps : IsCandidate (pair Instruction) (after_7 Instruction) 0
unfolding ins_of_word table work_cost next_pc written memory_after watch_step flow ins_at candidate
    turn_after_step is_ready comes_before
owner_keeps =
    the_owner
    (record {
      waits = refl;
      owner = refl;
      ready = record { job = lit< tt; released = lit≤ tt; open_still = refl };
      under_way = lit≤ tt;
    })

higher_first : IsCandidate (pair Cycle) (after_7 Cycle) 1
unfolding ins_of_word table work_cost next_pc written memory_after watch_step flow ins_at candidate
    turn_after_step is_ready comes_before
higher_first =
    the_first (λ y k. let w : Cycle ≡ Instruction = k.waits in cc)
    (record {
      ready = record { job = lit< tt; released = lit≤ tt; open_still = refl };
      first = first_of_two;
    })
  where
    first_of_two : (y : ℕ) → IsReady (after_7 Cycle) y → (y ≡ 1) ⊎ ComesBefore (after_7 Cycle) 1 y
    first_of_two zero r = inr (higher (lit< tt))
    first_of_two (suc zero) r = inl refl
    first_of_two (suc (suc y)) r = absurd (let l : suc (suc y) < 2 = r.job in omega arith)

pair_fetch : fetch (pair Cycle)
    (run (pair Cycle) (start_machine (pair Cycle) empty [] (line 1 0 ∷ line 0 16 ∷ [])) 38)
    ≡ Some (record { job = 0; address = 0x1004 })
unfolding ins_of_word table work_cost next_pc written memory_after watch_step flow ins_at candidate
    turn_after_step is_ready comes_before
pair_fetch = refl

-- calls. Without the store of x1 the second return goes to 0, an address without a word
abbrev calls : ℕ → System
calls second =
    record {
      platform = platform Cycle;
      plans = record { entry = 0x1000; stack = 0x8000; global = 0; loops = [] } ∷ [];
      word =
          words 0x1000 (0xFF010113 ∷ second ∷ 0x014000EF ∷ 0x010000EF ∷ 0x00C12083 ∷ 0x01010113
          ∷ 0x00008067 ∷ 0x00008067 ∷ []);
    }

calls_run : completions
    (run (calls 0x00112623) (start_machine (calls 0x00112623) empty [] (line 0 0 ∷ [])) 100)
    ≡ Answered 50 ∷ []
unfolding ins_of_word table work_cost next_pc written memory_after watch_step flow ins_at candidate
    turn_after_step is_ready comes_before
calls_run = refl

calls_kept : kept_of
    (run (calls 0x00112623) (start_machine (calls 0x00112623) empty [] (line 0 0 ∷ [])) 100)
    ≡ true ∷ []
unfolding ins_of_word table work_cost next_pc written memory_after watch_step flow ins_at candidate
    turn_after_step is_ready comes_before
calls_kept = refl

calls_fault : completions
    (run (calls 0x00000013) (start_machine (calls 0x00000013) empty [] (line 0 0 ∷ [])) 100)
    ≡ Faulted ∷ []
unfolding ins_of_word table work_cost next_pc written memory_after watch_step flow ins_at candidate
    turn_after_step is_ready comes_before
calls_fault = refl

calls_broken : kept_of
    (run (calls 0x00000013) (start_machine (calls 0x00000013) empty [] (line 0 0 ∷ [])) 100)
    ≡ false ∷ []
unfolding ins_of_word table work_cost next_pc written memory_after watch_step flow ins_at candidate
    turn_after_step is_ready comes_before
calls_broken = refl

-- three tasks, nested preemptions
abbrev nested_word : ℕ → Option ℕ
nested_word a =
    find_word a ((0x3010, 0x0100006F) ∷ (0x3020, 0x0100006F) ∷ (0x3030, 0x0100006F)
    ∷ (0x3040, 0x00000073)
    ∷ (0x2010, 0x0100006F) ∷ (0x2014, 0x0100006F) ∷ (0x2020, 0xFF5FF06F) ∷ (0x2024, 0x00000073)
    ∷ (0x1030, 0x0100006F) ∷ (0x1034, 0x0100006F) ∷ (0x1040, 0xFF5FF06F)
    ∷ (0x1044, 0x00000073) ∷ [])

abbrev nested : System
nested =
    record {
      platform = record (platform Cycle) { sets = 8 };
      plans = plan 0x3010 ∷ plan 0x2010 ∷ plan 0x1030 ∷ [];
      word = nested_word;
    }

nested_run : completions
    (run nested
    (start_machine nested (None ∷ None ∷ None ∷ None ∷ empty) []
    (line 2 0 ∷ line 1 31 ∷ line 0 62 ∷ [])) 180) ≡ Answered 175 ∷ Answered 146 ∷ Answered 117 ∷ []
unfolding ins_of_word table work_cost next_pc written memory_after watch_step flow ins_at candidate
    turn_after_step is_ready comes_before
nested_run = refl
