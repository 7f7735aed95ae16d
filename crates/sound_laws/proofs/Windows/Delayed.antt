-- For step 7: the reloads of a whole window take at most a delay that covers them.
use Rattle.std.proofs.Common.{◌≡◌, ℕ, ◌+◌, ◌*◌, ◌<◌, ◌≤◌, Bool, true, ◌&&◌, length, ap, arith}
use Rattle.std.proofs.Common.{nat_lt, nat_le, ◌==◌}
use Rattle.std.proofs.Math.Nat.{mul-le-mul_left}
use Rattle.std.proofs.lemmas.Bool.{and_parts, and_from, lt-ltb, ltb-true, leb-true}
use Rattle.crpd_base.proofs.Sums.{sum_le, sum_times}
use Rattle.crpd_base.specs.declared.data.Platform.{Platform}
use Rattle.crpd_base.specs.Sum.{sum_below}
use Rattle.preempt_machine.specs.Step.{is_open}
use Rattle.run_account.specs.Fetches.{job_after}
use Rattle.run_account.proofs.Owners.{was_open}
use Rattle.sound_laws.specs.Windows.{HaveRoom}
use Rattle.sound_laws.proofs.Windows.Rooms.{Covers}
use Rattle.sound_laws.proofs.Windows.Busy.{task_at, in_window}
use Rattle.sound_laws.proofs.Windows.Releases.{count}
use Rattle.sound_laws.proofs.Counts.Counting.{spread, count_le}
use Rattle.sound_laws.proofs.Windows.Responses.{HigherAreOver}
use Rattle.sound_laws.proofs.Delays.UnionCount.{inside_task}
use Rattle.walk_parts.specs.Parts.{WalkPart}
use Rattle.sound_laws.proofs.Walks.CheckedRuns.{KeptRun, CheckedRun, AreSound, checked_run, window}
use Rattle.sound_laws.proofs.Reloads.Checked.{is_reload, extra, victim}
use Rattle.sound_laws.proofs.Execution.Spent.{extra_counts}
use Rattle.sound_laws.proofs.Delays.WindowReloads.{IsCounted, IsOpenWindow, IsCovering}
use Rattle.sound_laws.proofs.Delays.WindowReloads.{victim_inside}

-- for the window of each task, sound parts of all tasks, and delays of all pairs of tasks that cover
-- the reloads of a run by these parts, for which the windows have room
pub record HaveDelays (B : KeptRun) (walks : ℕ → ℕ → WalkPart)
    (sound : (i : ℕ) → AreSound B.set B.graphs (walks i)) (delay : ℕ → ℕ → ℕ) : Type 0 where
  pub room : HaveRoom B.set B.graphs (λ i k. (walks i k).part) B.windows delay
  pub covering : (i : ℕ) → i < length B.start.lines
      → (charged : ℕ → ℕ)
      × IsCovering (checked_run B (walks (task_at B.start i)) (sound (task_at B.start i))) i charged
      (delay (task_at B.start i))

module _ (K : CheckedRun) where
  open K use {start as s, set, horizon, code as C}

  -- the reloads of a whole window
  module _ (i t from : ℕ) (h : i < length s.lines) (after : t ≤ from)
      (fits : from ≤ t + window K (task_at s i))
      (in_horizon : t + window K (task_at s i) ≤ horizon)
      (covers : Covers s (in_window s i t (t + window K (task_at s i))) i from
      (t + window K (task_at s i))) (higher : HigherAreOver s (window K) horizon i)
      (o : is_open (job_after s (t + window K (task_at s i)) i).standing ≡ true) where
    abbrev until : ℕ
    until = t + window K (task_at s i)

    abbrev counted_reload : ℕ → Bool
    counted_reload n = nat_le from n && (nat_lt n (t + window K (task_at s i)) && is_reload K n)

    counted : (n : ℕ) → counted_reload n ≡ true → IsCounted K from (t + window K (task_at s i)) n
    counted n b =
        let one = and_parts (nat_le from n) _ b in
        let two = and_parts (nat_lt n (t + window K (task_at s i))) (is_reload K n) one.1 in
        record { late = leb-true from n one.0; early = ltb-true n _ two.0; reload = two.1 }

    here : IsOpenWindow K i t from (t + window K (task_at s i))
    here =
        record {
          job = h;
          after = after;
          shorter = omega arith;
          by_horizon = in_horizon;
          covers = covers;
          higher = higher;
          open_before = λ n l. was_open s n (t + window K (task_at s i)) i (omega arith) o;
        }

    -- by any delay that covers them
    module _ (charged delay : ℕ → ℕ) (covering : IsCovering K i charged delay) where
      in_all : set.platform.miss * count counted_reload until ≤ sum_below delay (task_at s i)
      in_all =
          let all = spread counted_reload (λ n. task_at s (charged n)) until (task_at s i)
          (λ n l b.
          let up = covering.higher n (counted n b).reload in
          let top = inside_task s i t until (victim K n)
          (victim_inside K i t from (t + window K (task_at s i)) h after here.shorter in_horizon
          covers higher here.open_before counted_reload counted n b) in
          omega arith) in
          let more = mul-le-mul_left set.platform.miss all in
          let times = sum_times set.platform.miss
          (λ j. count (λ n. counted_reload n && (task_at s (charged n) == j)) until)
          (task_at s i) in
          let le = sum_le (λ j. set.platform.miss * count
          (λ n. counted_reload n && (task_at s (charged n) == j)) until) delay (task_at s i)
          (λ j l. covering.within t from (t + window K (task_at s i)) j counted_reload here
          (omega arith) counted) in
          omega (arith, more, times, le)

      pub delayed : sum_below (extra K) until
          ≤ sum_below (extra K) from + sum_below delay (task_at s i)
      delayed =
          let all = in_all in
          let same : s.system.platform.miss * count counted_reload until
          ≡ set.platform.miss * count counted_reload until =
          ap (λ (p : Platform). p.miss * count counted_reload until) C.platform in
          let counts = extra_counts K from (t + window K (task_at s i)) fits in
          let le = count_le (λ n. nat_le from n && is_reload K n) counted_reload
          (t + window K (task_at s i)) (λ n l b.
          let both = and_parts (nat_le from n) (is_reload K n) b in
          and_from (nat_le from n) _ both.0
          (and_from (nat_lt n (t + window K (task_at s i))) (is_reload K n) (lt-ltb n _ l)
          both.1)) in
          let more = mul-le-mul_left s.system.platform.miss le in
          omega (arith, all, counts, same, more)
