-- The windows of the example, computed.
use Rattle.std.proofs.Common.{◌≡◌, ℕ, suc, ◌+◌, ◌<◌, ◌≤◌, List, [], ◌∷◌, length, refl}
use Rattle.std.proofs.Common.{arith}
use Rattle.crpd_base.proofs.Few.{one, two}
use Rattle.crpd_base.specs.Tasks.{period_of, jitter_of, deadline_of}
use Rattle.crpd_base.specs.declared.data.Method.{Method}
use Rattle.crpd_base.specs.declared.data.Method.TheVariants.{Ucb, Ecb}
use Rattle.delay_count.specs.Demand.{demand}
use Rattle.delay_count.specs.Gamma.{union_count, shared_count}
use Rattle.response.specs.declared.choice.Choice.{Choice}
use Rattle.response.specs.Windows.{IsSmallerWindow, chosen_window, chosen_method}
use Rattle.sustainability.specs.Workload.{Workload, IsNoMoreDemanding}
use Rattle.sustainability.specs.Laws.{AreWindows}
use Rattle.sustainability.proofs.Demands.{demand_from}
use Rattle.sustainability.proofs.Windows.{as_demanding}
use Rattle.sustainability.specs.Examples.{both, lower, by_ucb, ShorterWindows}

-- the need of a task, by the windows of the higher ones
abbrev needs : Workload → List Choice → ℕ → Method → ℕ → ℕ
needs load choices i = demand load.set load.parts load.longest (chosen_window choices) i

-- a window that the search finds in its second step
module _ (load : Workload) (choices : List Choice) (i : ℕ) (is : i < length load.set.tasks)
    (P : (k : ℕ) → k < length load.set.tasks → 1 ≤ period_of load.set k) (first w : ℕ)
    (from_one : (m : Method) → needs load choices i m 1 ≡ first)
    (from_first : (m : Method) → needs load choices i m first ≡ w) where
  grows : (m : Method) (v x : ℕ) → v ≤ x → needs load choices i m v ≤ needs load choices i m x
  grows m v x le =
      demand_from (λ k. k) load load (as_demanding load) P (chosen_window choices)
      (chosen_window choices) i v x is le (λ k l. omega arith) m

  least : (m : Method) (v : ℕ) → 1 ≤ v → needs load choices i m v ≤ v → w ≤ v
  least m v some fits =
      let a = from_one m in
      let b = from_first m in
      let s = grows m 1 v some in
      let t = grows m first v (omega (arith, a, s, fits)) in
      omega (arith, b, t, fits)

  found : needs load choices i Ucb w ≡ w → 1 ≤ w → w + jitter_of load.set i ≤ deadline_of load.set i
      → IsSmallerWindow load.set (needs load choices i) i Ucb w
  found e some within = (
    record { some = some; enough = omega (arith, e); in_deadline = within; least = least Ucb },
    λ v V. let a = V.some in let b = V.enough in least Ecb v a b,
  )

-- a task's need, by both methods
abbrev IsNeed : Workload → List Choice → ℕ → ℕ → ℕ → Type 0
IsNeed load choices i w n = (m : Method) → needs load choices i m w ≡ n

abbrev often : List Choice
often = by_ucb 2 ∷ by_ucb 16 ∷ []

abbrev seldom : List Choice
seldom = by_ucb 2 ∷ by_ucb 13 ∷ []

abbrev alone : List Choice
alone = by_ucb 10 ∷ []

higher_one : (period : ℕ) (choices : List Choice) (w : ℕ) → IsNeed (both period) choices 0 w 2
higher_one period choices w Ucb = refl
higher_one period choices w Ecb = refl

often_one : IsNeed (both 10) often 1 1 13
unfolding union_count shared_count
often_one Ucb = refl
often_one Ecb = refl

often_first : IsNeed (both 10) often 1 13 16
unfolding union_count shared_count
often_first Ucb = refl
often_first Ecb = refl

often_last : IsNeed (both 10) often 1 16 16
unfolding union_count shared_count
often_last Ucb = refl
often_last Ecb = refl

seldom_one : IsNeed (both 20) seldom 1 1 13
unfolding union_count shared_count
seldom_one Ucb = refl
seldom_one Ecb = refl

seldom_first : IsNeed (both 20) seldom 1 13 13
unfolding union_count shared_count
seldom_first Ucb = refl
seldom_first Ecb = refl

alone_need : (w : ℕ) → IsNeed lower alone 0 w 10
alone_need w Ucb = refl
alone_need w Ecb = refl

are_often : AreWindows (both 10) often
are_often = record {
  tasks = refl;
  each =
      let P = two (λ k. 1 ≤ period_of (both 10).set k) (omega arith) (omega arith) in
      two (λ k. IsSmallerWindow (both 10).set (needs (both 10) often k) k (chosen_method often k)
      (chosen_window often k))
      (found (both 10) often 0 (omega arith) P 2 2 (higher_one 10 often 1) (higher_one 10 often 2)
      refl (omega arith) (omega arith))
      (found (both 10) often 1 (omega arith) P 13 16 often_one often_first (often_last Ucb)
      (omega arith) (omega arith));
}

are_seldom : AreWindows (both 20) seldom
are_seldom = record {
  tasks = refl;
  each =
      let P = two (λ k. 1 ≤ period_of (both 20).set k) (omega arith) (omega arith) in
      two (λ k. IsSmallerWindow (both 20).set (needs (both 20) seldom k) k
      (chosen_method seldom k) (chosen_window seldom k))
      (found (both 20) seldom 0 (omega arith) P 2 2 (higher_one 20 seldom 1)
      (higher_one 20 seldom 2) refl (omega arith) (omega arith))
      (found (both 20) seldom 1 (omega arith) P 13 13 seldom_one seldom_first (seldom_first Ucb)
      (omega arith) (omega arith));
}

is_alone : AreWindows lower alone
is_alone = record {
  tasks = refl;
  each = one (λ k. IsSmallerWindow lower.set (needs lower alone k) k (chosen_method alone k)
      (chosen_window alone k))
      (found lower alone 0 (omega arith) (one (λ k. 1 ≤ period_of lower.set k) (omega arith)) 10 10
      (alone_need 1) (alone_need 10) refl (omega arith) (omega arith));
}

pub longer_period : IsNoMoreDemanding (λ k. k) (both 20) (both 10)
longer_period = record {
  order = record { within = λ k l. l; rising = λ j k l h. l };
  platform = record { switching = refl; miss = omega arith; switch = omega arith };
  times = record {
    period = two (λ k. period_of (both 10).set k ≤ period_of (both 20).set k) (omega arith)
        (omega arith);
    deadline = two (λ k. deadline_of (both 10).set k ≤ deadline_of (both 20).set k) (omega arith)
        (omega arith);
    jitter = two (λ k. jitter_of (both 20).set k ≤ jitter_of (both 10).set k) (omega arith)
        (omega arith);
  };
  parts = λ k l. record { bound = omega arith; evicting = λ c h. h; useful = λ c h. h };
  longest = λ k l. omega arith;
}

left_away : IsNoMoreDemanding suc lower (both 10)
left_away = record {
  order = record { within = λ k l. omega (arith, l); rising = λ j k l h. omega (arith, l) };
  platform = record { switching = refl; miss = omega arith; switch = omega arith };
  times = record {
    period = one (λ k. period_of (both 10).set (suc k) ≤ period_of lower.set k) (omega arith);
    deadline = one (λ k. deadline_of (both 10).set (suc k) ≤ deadline_of lower.set k) (omega arith);
    jitter = one (λ k. jitter_of lower.set k ≤ jitter_of (both 10).set (suc k)) (omega arith);
  };
  parts = λ k l. record { bound = omega arith; evicting = λ c h. h; useful = λ c h. h };
  longest = λ k l. omega arith;
}

pub shorter_windows : ShorterWindows
shorter_windows = record {
  often = are_often;
  longer_period = longer_period;
  seldom = are_seldom;
  left_away = left_away;
  alone = is_alone;
}
