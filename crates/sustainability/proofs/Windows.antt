-- The windows with the multiset delays of a workload that is no more demanding than another.
use Rattle.std.proofs.Common.{ℕ, zero, suc, ◌+◌, ◌<◌, ◌≤◌, List, length, refl, sym, subst}
use Rattle.std.proofs.Common.{inl, inr, arith}
use Rattle.std.proofs.lemmas.Bool.{cases_eq}
use Rattle.crpd_base.specs.Tasks.{period_of, jitter_of, deadline_of}
use Rattle.crpd_base.specs.declared.data.Method.{Method}
use Rattle.crpd_base.specs.declared.data.Method.TheVariants.{Ucb, Ecb}
use Rattle.delay_count.specs.Demand.{demand}
use Rattle.response.specs.declared.choice.Choice.{Choice}
use Rattle.response.specs.Windows.{Demand, HasNoWindow, IsSmallerWindow, AreChoices, chosen_window}
use Rattle.response.specs.Windows.{chosen_method, IsFirstWithoutWindow}
use Rattle.response.specs.WindowEnds.{LooksAbove}
use Rattle.response.proofs.SomeWindows.{windows_exist}
use Rattle.response.proofs.WindowLaws.{smaller_is_window, smaller_within}
use Rattle.sustainability.specs.Workload.{Workload, IsNoMoreDemanding}
use Rattle.sustainability.specs.Laws.{AreWindows, HasNoLongerWindows}
use Rattle.sustainability.specs.Laws.{CertifiedWindowsAreSustainable, CertifiedWindowsAreNoLonger}
use Rattle.sustainability.proofs.Demands.{demand_from}

-- a workload is no more demanding than itself
pub as_demanding : (load : Workload) → IsNoMoreDemanding (λ k. k) load load
as_demanding load = record {
  order = record { within = λ k l. l; rising = λ j k l h. l };
  platform = record { switching = refl; miss = omega arith; switch = omega arith };
  times = record {
    period = λ k l. omega arith;
    deadline = λ k l. omega arith;
    jitter = λ k l. omega arith;
  };
  parts = λ k l. record {
    bound = omega arith;
    evicting = λ c h. h;
    useful = λ c h. h;
  };
  longest = λ k l. omega arith;
}

-- so the same windows of the higher tasks give the same demand
looks_above : (load : Workload)
    → ((k : ℕ) → k < length load.set.tasks → 1 ≤ period_of load.set k)
    → LooksAbove load.set (demand load.set load.parts load.longest)
looks_above load P window other i is same method w =
    let le = demand_from (λ k. k) load load (as_demanding load) P window other i w w is
    (omega arith)
    (λ k l. let e = same k l in omega (arith, e)) method in
    let ge = demand_from (λ k. k) load load (as_demanding load) P other window i w w is
    (omega arith)
    (λ k l. let e = same k l in omega (arith, e)) method in
    omega (arith, le, ge)

module _ (origin : ℕ → ℕ) (less more : Workload) (D : IsNoMoreDemanding origin less more)
    (P : (k : ℕ) → k < length more.set.tasks → 1 ≤ period_of more.set k) where
  abbrev less_demand : Demand
  less_demand = demand less.set less.parts less.longest

  abbrev more_demand : Demand
  more_demand = demand more.set more.parts more.longest

  -- the origin's window has room for the task
  record HasRoom (short : ℕ → ℕ) (i : ℕ) (method : Method) (w : ℕ) : Type 0 where
    some : 1 ≤ w
    enough : less_demand short i method w ≤ w
    in_deadline : w + jitter_of less.set i ≤ deadline_of less.set i

  has_room : (i : ℕ) (short long : ℕ → ℕ) → i < length less.set.tasks
      → ((k : ℕ) → k < i → short k ≤ long (origin k)) → (method : Method) (w : ℕ)
      → IsSmallerWindow more.set (more_demand long (origin i)) (origin i) method w
      → HasRoom short i method w
  has_room i short long is below method w S =
      let W = smaller_is_window more.set (more_demand long (origin i)) (origin i) method w S in
      let fits = W.enough in
      let late = W.in_deadline in
      let le = demand_from origin less more D P short long i w w is (omega arith) below method in
      let longer = D.times.deadline i is in
      let sooner = D.times.jitter i is in
      record {
        some = W.some;
        enough = omega (arith, fits, le);
        in_deadline = omega (arith, late, longer, sooner);
      }

  -- no window of the first tasks is longer than that of the origin
  windows_le : (short long : List Choice) (n : ℕ) → n ≤ length less.set.tasks
      → AreChoices less.set less_demand short n
      → AreChoices more.set more_demand long (length more.set.tasks)
      → (j : ℕ) → j < n → chosen_window short j ≤ chosen_window long (origin j)
  windows_le short long zero le S T j lt = absurd (omega (arith, lt))
  windows_le short long (suc n) le S T j lt =
      let below : (i : ℕ) → i < n → chosen_window short i ≤ chosen_window long (origin i) =
      windows_le short long n (omega (arith, le)) (λ i l. S i (omega (arith, l))) T in
      elim (cases_eq j n) [
        | inl e ↦
            let R = has_room n (chosen_window short) (chosen_window long) (omega (arith, le)) below
            (chosen_method long (origin n)) (chosen_window long (origin n))
            (T (origin n) (D.order.within n (omega (arith, le)))) in
            subst (λ x. chosen_window short x ≤ chosen_window long (origin x)) (sym e)
            (smaller_within less.set (less_demand (chosen_window short) n) n
            (chosen_method short n) (chosen_method long (origin n)) (chosen_window long (origin n))
            (chosen_window short n)
            (S n (omega arith)) R.some R.enough R.in_deadline)
        | inr ne ↦ below j (omega (arith, lt, ne))
      ]

  -- no task is without a window
  never_without : (long : List Choice) (i : ℕ)
      → AreChoices more.set more_demand long (length more.set.tasks)
      → IsFirstWithoutWindow less.set less_demand i → ⊥
  never_without long i T F =
      let is = F.task in
      let below = windows_le F.higher long i (omega (arith, is)) F.each T in
      let R = has_room i (chosen_window F.higher) (chosen_window long) is below
      (chosen_method long (origin i)) (chosen_window long (origin i))
      (T (origin i) (D.order.within i is)) in
      let over = none_by (chosen_method long (origin i)) (chosen_window long (origin i)) R.some
      R.in_deadline in
      let fits = R.enough in
      absurd (omega (arith, over, fits))
    where
      none_by : (method : Method)
          → HasNoWindow less.set (less_demand (chosen_window F.higher) i method) i
      none_by Ucb = F.no_ucb
      none_by Ecb = F.no_ecb

  periods : (k : ℕ) → k < length less.set.tasks → 1 ≤ period_of less.set k
  periods k l =
      let p = P (origin k) (D.order.within k l) in
      let q = D.times.period k l in
      omega (arith, p, q)

  some_windows : (long : List Choice) → AreWindows more long
      → HasNoLongerWindows origin less (chosen_window long)
  some_windows long W =
      elim (windows_exist less.set less_demand (looks_above less periods)) [
        | inl (choices, A) ↦
            record {
              choices = choices;
              are = A;
              no_longer =
                  windows_le choices long (length less.set.tasks) (omega arith) A.each W.each;
            }
        | inr (i, F) ↦ absurd (never_without long i W.each F)
      ]

pub windows_are_sustainable : CertifiedWindowsAreSustainable
windows_are_sustainable origin less more choices T D W =
    some_windows origin less more D T.period choices W

pub windows_are_no_longer : CertifiedWindowsAreNoLonger
windows_are_no_longer origin less more fewer choices k T D V W l =
    let le = windows_le origin less more D T.period fewer choices (length less.set.tasks)
    (omega arith) V.each W.each k l in
    let sooner = D.times.jitter k l in
    (le, omega (arith, le, sooner))
