-- The run of the two tasks whose switches wait has a ledger of one reload.
use Rattle.std.proofs.Common.{◌≡◌, ◌≢◌, ◌⊎◌, ℕ, ◌+◌, ◌<◌, ◌≤◌, true, false, List, [], ◌∷◌, Some}
use Rattle.std.proofs.Common.{Contains, IsTrue, ◌↔◌, refl, sym, ◌∙◌, ap, subst, inl, inr, arith}
use Rattle.std.proofs.Common.{slice_index_or}
use Rattle.std.proofs.lemmas.Bool.{cases_eq, false≢true}
use Rattle.crpd_base.proofs.Few.{one, two, four}
use Rattle.code_map.specs.Words.{word_at}
use Rattle.rv_decode.specs.Flow.{flow}
use Rattle.rv_decode.specs.Table.{ins_of_word, table}
use Rattle.rv_decode.specs.Cost.{work_cost}
use Rattle.rv_core.specs.Effect.{next_pc, written, memory_after}
use Rattle.icache.specs.Cache.{is_hit}
use Rattle.icache.specs.Accesses.{Accesses, accesses}
use Rattle.flow_watch.specs.Watch.{step as watch_step, is_unbroken}
use Rattle.evict_sets.specs.Full.{Listed, IsHit}
use Rattle.evict_sets.specs.ListedPart.{listed_of, certified_task}
use Rattle.preempt_machine.specs.Machine.{ins_at}
use Rattle.preempt_machine.specs.Step.{before, candidate, turn_after_step, is_ready, comes_before}
use Rattle.preempt_machine.specs.Step.{Fetch, state, fetch_at}
use Rattle.preempt_machine.specs.Safe.{IsKept}
use Rattle.run_account.specs.Fetches.{job_after, fetched_set, IsLastFetchTo}
use Rattle.run_account.specs.Nodes.{IsNodeOfJob}
use Rattle.run_account.specs.Reloads.{fetched_block, FetchesAt, IsFetchGap, IsLatestBetween}
use Rattle.run_account.specs.Ledger.{IsLedgerReload, IsEvicted, IsPreempted, IsOfRun, IsLedger}
use Rattle.worked_examples.specs.TwoTasks.{graphs}
use Rattle.worked_examples.specs.TwoWords.{zero_alone}
use Rattle.worked_examples.specs.StraightCode.{first_alone}
use Rattle.worked_examples.specs.LateTasks.{platform, certificate, start, reload}
use Rattle.worked_examples.proofs.FetchList.{fetches_from, fetch_is_listed}
use Rattle.worked_examples.proofs.StraightCode as law
use Rattle.worked_examples.proofs.StraightTests.{graph, next, address, before as before_node, line}
use Rattle.worked_examples.proofs.TwoWords.{way, is_way}

-- the two fetches of each job: the low one is at place 0, the high one at place 1
abbrev low_first : Fetch
low_first = record { job = 0; address = 0x1000 }

abbrev high_first : Fetch
high_first = record { job = 1; address = 0x2000 }

abbrev high_second : Fetch
high_second = record { job = 1; address = 0x2004 }

abbrev low_second : Fetch
low_second = record { job = 0; address = 0x1004 }

abbrev fetches : List (ℕ × Fetch)
fetches = (5, low_first) ∷ (21, high_first) ∷ (32, high_second) ∷ (38, low_second) ∷ []

-- the results of computing the run: its fetches, those around the reload, the nodes at which they
-- are made, that the high job hits at its second one and the low one misses there, and no watch is
-- broken
record Computed : Type 0 where
  are_these : fetches_from start.system 100 0 (state start 0) ≡ fetches
  begins : FetchesAt start 0 5 low_first
  evicts : FetchesAt start 1 32 high_second
  ends : FetchesAt start 0 38 low_second
  low_at_5 : (job_after start 5 0).pc ≡ 0x1000
  high_at_21 : (job_after start 21 1).pc ≡ 0x2000
  low_at_38 : IsNodeOfJob (graphs 1) (job_after start 38 0) 1
  hits : is_hit platform (state start 32).cache (fetched_block start high_second) ≡ true
  misses : is_hit platform (state start 38).cache (fetched_block start low_second) ≡ false
  kept : IsKept (state start 38)

computed : Computed
unfolding word_at ins_of_word table work_cost next_pc written memory_after watch_step flow ins_at
    candidate turn_after_step is_ready comes_before
computed =
    record {
      are_these = refl;
      begins = record { is = refl; by = refl };
      evicts = record { is = refl; by = refl };
      ends = record { is = refl; by = refl };
      low_at_5 = refl;
      high_at_21 = refl;
      low_at_38 = record {
        below = let l : 1 < 2 = omega arith in l;
        context_is = refl;
        address_is = refl;
      };
      hits = refl;
      misses = refl;
      kept = λ i d l.
          two (λ k. is_unbroken (slice_index_or (state start 38).jobs k d).watch ≡ true) refl refl
          i l;
    }

-- what holds of the four fetches holds of each in the run's first 100 steps
at_each : (P : ℕ × Fetch → Type 0) → P (5, low_first) → P (21, high_first) → P (32, high_second)
    → P (38, low_second) → (t : ℕ) (f : Fetch) → t < 100 → fetch_at start t ≡ Some f → P (t, f)
at_each P a b c d t f l e =
    let is_in : Contains fetches (t, f) =
    subst (λ xs. Contains xs (t, f)) computed.are_these
    (fetch_is_listed start 100 0 t f (omega arith) (omega (arith, l)) e) in
    subst P is_in.2 (four (λ k. P (slice_index_or fetches k (t, f))) a b c d is_in.0 is_in.1)

-- a task's node is counted as a hit: of the two nodes only the second one is
abbrev IsCounted : ℕ → ℕ → Type 0
IsCounted task y =
    IsHit (graphs task).graph (accesses platform (graphs task).places.address)
    (listed_of (certified_task certificate task)) y

module _ (entry window : ℕ) where
  abbrev lists : Listed
  lists = listed_of (first_alone 12 zero_alone zero_alone (12 ∷ 1 ∷ []) window)

  abbrev uses : Accesses
  uses = accesses platform (address (way entry))

  counts : (y : ℕ) → y < 2 → IsTrue (law.hit_at (before_node (way entry)) uses y)
      ↔ IsHit (graph (way entry)).graph uses lists y
  counts =
      law.hits (graph (way entry)).graph (before_node (way entry)) uses lists
      (line (way entry) (is_way entry))
      (law.lists_first 2 (next (way entry)) 12 zero_alone zero_alone (12 ∷ 1 ∷ []) window)

-- of the two nodes of a task only the first one has the task's entry
first_of : (entry y : ℕ) → y < 2 → address (way entry) y ≡ entry → y ≡ 0
first_of entry y below e =
    elim (cases_eq y 0) [
      | inl z ↦ z
      | inr ne ↦
          let one : y ≡ 1 = omega arith in
          let at : entry + 4 ≡ entry = sym (ap (address (way entry)) one) ∙ e in
          absurd (omega (arith, at))
    ]

low_first_is_no_hit : IsCounted 1 0 → ⊥
low_first_is_no_hit h = false≢true ((counts 0x1000 59 0 (omega arith)).1 h)

high_first_is_no_hit : IsCounted 0 0 → ⊥
high_first_is_no_hit h = false≢true ((counts 0x2000 27 0 (omega arith)).1 h)

is_reload : IsLedgerReload start graphs certificate 38 0 low_second
is_reload =
    record {
      kept = computed.kept;
      fetches = computed.ends;
      node = 1;
      at = computed.low_at_38;
      counted = (counts 0x1000 59 1 (omega arith)).0 refl;
      misses = computed.misses;
    }

-- the last fetch to the set before the reload
last_before : IsLastFetchTo start (fetched_set start low_second) 38 32 high_second
last_before =
    record {
      earlier = omega arith;
      is = computed.evicts.is;
      to_set = refl;
      last = λ t f a b e.
          at_each (λ x. 33 ≤ x.0 → x.0 < 38 → fetched_set start x.1 ≢ 0)
          (λ m n. absurd (omega (arith, m))) (λ m n. absurd (omega (arith, m)))
          (λ m n. absurd (omega (arith, m))) (λ m n. absurd (omega (arith, n)))
          t f (omega (arith, b)) e a b;
    }

-- the low job's fetches around it
round_it : IsFetchGap start 0 5 32 38 low_first low_second
round_it =
    record {
      after = omega arith;
      until = omega arith;
      begins = computed.begins;
      ends = computed.ends;
      none = λ t f a b e.
          at_each (λ x. 5 < x.0 → x.0 < 38 → x.1.job ≢ 0)
          (λ m n. absurd (omega (arith, m))) (λ m n q. absurd (omega (arith, q)))
          (λ m n q. absurd (omega (arith, q))) (λ m n. absurd (omega (arith, n)))
          t f (omega (arith, b)) e a b;
    }

latest : IsLatestBetween start 0 1 5 38
latest =
    record {
      at = 32;
      fetch = high_second;
      after = omega arith;
      until = omega arith;
      by = computed.evicts;
      other = λ q. absurd (omega (arith, q));
      latest = λ t f a b e.
          at_each
          (λ x. 5 < x.0 → x.0 < 38
          → (x.1.job ≡ 1) ⊎ (before (state start 0).jobs x.1.job 1 ≡ true))
          (λ m n. absurd (omega (arith, m))) (λ m n. inl refl)
          (λ m n. inl refl) (λ m n. absurd (omega (arith, n)))
          t f (omega (arith, b)) e a b;
    }

is_evicted : IsEvicted start graphs certificate 38 0 1
is_evicted = record {
  fetch = low_second;
  reload = is_reload;
  time = 32;
  last = high_second;
  is = record { last = last_before; by = refl };
}

is_preempted : IsPreempted start graphs certificate 38 0 1
is_preempted =
    record {
      fetch = low_second;
      reload = is_reload;
      from = 5;
      time = 32;
      until = 38;
      is = record {
        evictor = high_second;
        last = last_before;
        lies = record { from = low_first; to = low_second; gap = round_it };
        in_time = omega arith;
        passes = latest;
      };
    }

is_of_run : IsOfRun start graphs certificate reload
unfolding is_evicted
is_of_run = record { evicted = is_evicted; preempted = is_preempted; to_set = refl }

-- the others are no reloads: the first of each job is not counted, the high job's second hits
no_other : (t x : ℕ) (f : Fetch) → t < 100 → IsLedgerReload start graphs certificate t x f
    → Contains (38 ∷ []) t
no_other t x f l r =
    at_each
    (λ e. IsLedgerReload start graphs certificate e.0 e.1.job e.1 → Contains (38 ∷ []) e.0)
    (λ q. absurd (low_first_is_no_hit (subst (IsCounted 1)
    (first_of 0x1000 q.node q.at.below (q.at.address_is ∙ computed.low_at_5)) q.counted)))
    (λ q. absurd (high_first_is_no_hit (subst (IsCounted 0)
    (first_of 0x2000 q.node q.at.below (q.at.address_is ∙ computed.high_at_21)) q.counted)))
    (λ q. absurd (false≢true (sym q.misses ∙ computed.hits)))
    (λ q. (0, omega arith, refl)) t f l r.fetches.is
    (subst (λ y. IsLedgerReload start graphs certificate t y f) (sym r.fetches.by) r)

pub ledger : IsLedger start graphs certificate 100 (reload ∷ [])
ledger =
    record {
      reloads = λ i d l.
          one
          (λ k. let e = slice_index_or (reload ∷ []) k d in
          (e.time < 100) × IsOfRun start graphs certificate e)
          (omega arith, is_of_run) i l;
      in_order = λ i j d a b. absurd (omega (arith, a, b));
      complete = no_other;
    }
