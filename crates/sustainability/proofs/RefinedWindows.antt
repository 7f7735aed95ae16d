-- The refined windows of a workload that is no more demanding than another.
use Rattle.std.proofs.Common.{ℕ, zero, suc, ◌<◌, ◌≤◌, List, length, sym, subst}
use Rattle.std.proofs.Common.{inl, inr, arith}
use Rattle.std.proofs.lemmas.Bool.{cases_eq}
use Rattle.crpd_base.specs.Tasks.{period_of}
use Rattle.crpd_base.specs.declared.data.RefinedTask.{RefinedTask}
use Rattle.crpd_base.specs.declared.data.PointMethod.TheVariants.{Ucb}
use Rattle.delay_point.specs.Chosen.{bound_by}
use Rattle.delay_point.specs.Refined.{window_at, method_at}
use Rattle.sustainability.specs.RefinedWorkload.{RefinedWorkload, counted_by}
use Rattle.sustainability.specs.RefinedWorkload.{IsNoMoreDemandingAtNodes}
use Rattle.sustainability.specs.RefinedLaws.{AreRefinedWindows, HasNoLongerRefined}
use Rattle.sustainability.specs.RefinedLaws.{RefinedWindowsAreSustainable}
use Rattle.sustainability.specs.RefinedLaws.{RefinedWindowsAreNoLonger}
use Rattle.sustainability.proofs.Windows.{as_demanding}
use Rattle.sustainability.proofs.Listed.{LooksAbove, LeavesRoom, no_longer_than}
use Rattle.sustainability.proofs.Listed.{refined_list, list_refined, list_within}
use Rattle.sustainability.proofs.RefinedDemands.{needs_of, needs_from}

pub as_demanding_at_nodes : (load : RefinedWorkload) → IsNoMoreDemandingAtNodes (λ k. k) load load
as_demanding_at_nodes load = record {
  counted = λ m. as_demanding (counted_by m load);
  nodes = λ m k y l b. record { node = y; within = b; useful = λ c h. h };
}

-- the same windows of the higher tasks give the same demand
looks_above : (load : RefinedWorkload)
    → ((k : ℕ) → k < length load.set.tasks → 1 ≤ period_of load.set k)
    → LooksAbove load.set (needs_of load)
looks_above load P window other i is same m w =
    let le = needs_from (λ k. k) load load (as_demanding_at_nodes load) P window other i w w is
    (omega arith)
    (λ k l. let e = same k l in omega (arith, e)) m in
    let ge = needs_from (λ k. k) load load (as_demanding_at_nodes load) P other window i w w is
    (omega arith)
    (λ k l. let e = same k l in omega (arith, e)) m in
    omega (arith, le, ge)

module _ (origin : ℕ → ℕ) (less more : RefinedWorkload)
    (D : IsNoMoreDemandingAtNodes origin less more)
    (P : (k : ℕ) → k < length more.set.tasks → 1 ≤ period_of more.set k)
    (tasks : List RefinedTask) (W : AreRefinedWindows more tasks) where
  -- the window of the origin of a task
  limit : ℕ → ℕ
  limit k = window_at tasks (origin k)

  leaves_room : LeavesRoom less.set (needs_of less) limit
  unfolding limit
  leaves_room window i is below =
      let from = D.counted (method_at tasks (origin i)) in
      let R = W.window (origin i) (from.order.within i is) in
      let O = R.window in
      let fits = O.enough in
      let late = O.in_deadline in
      let le = needs_from origin less more D P window (window_at tasks) i (limit i) (limit i) is
      (omega arith) below (method_at tasks (origin i)) in
      let longer = from.times.deadline i is in
      let sooner = from.times.jitter i is in (
        method_at tasks (origin i),
        record {
          some = O.some;
          enough = omega (arith, fits, le);
          in_deadline = omega (arith, late, longer, sooner);
        },
      )

  -- no refined window of the first tasks is longer than that of the origin
  refined_le : (fewer : List RefinedTask) → AreRefinedWindows less fewer → (n : ℕ)
      → n ≤ length less.set.tasks → (j : ℕ) → j < n → window_at fewer j ≤ limit j
  refined_le fewer V zero le j lt = absurd (omega (arith, lt))
  refined_le fewer V (suc n) le j lt =
      let below = refined_le fewer V n (omega (arith, le)) in
      elim (cases_eq j n) [
        | inl e ↦
            let R = leaves_room (window_at fewer) n (omega (arith, le)) below in
            subst (λ x. window_at fewer x ≤ limit x) (sym e)
            (no_longer_than less.set (needs_of less (window_at fewer) n) n (window_at fewer n)
            (limit n) (method_at fewer n) R.0 (V.window n (omega (arith, le))) R.1)
        | inr ne ↦ below j (omega (arith, lt, ne))
      ]

  some_refined : HasNoLongerRefined origin less (window_at tasks)
  unfolding limit
  some_refined =
      let from = D.counted Ucb in
      let above = looks_above less (λ k l.
      let p = P (origin k) (from.order.within k l) in
      let q = from.times.period k l in
      omega (arith, p, q)) in
      record {
        tasks = refined_list less.set (needs_of less) (bound_by less.parts) limit above leaves_room;
        are = list_refined less.set (needs_of less) (bound_by less.parts) limit above leaves_room;
        no_longer =
            list_within less.set (needs_of less) (bound_by less.parts) limit above leaves_room;
      }

  pub refined_no_longer : (fewer : List RefinedTask) → AreRefinedWindows less fewer → (k : ℕ)
      → k < length less.set.tasks → window_at fewer k ≤ window_at tasks (origin k)
  unfolding limit
  refined_no_longer fewer V k l =
      refined_le fewer V (length less.set.tasks) (omega arith) k l

pub refined_are_sustainable : RefinedWindowsAreSustainable
refined_are_sustainable origin less more tasks T D W =
    some_refined origin less more D T.period tasks W

pub refined_are_no_longer : RefinedWindowsAreNoLonger
refined_are_no_longer origin less more fewer tasks k T D V W l =
    let le = refined_no_longer origin less more D T.period tasks W fewer V k l in
    let from = D.counted Ucb in
    let sooner = from.times.jitter k l in
    (le, omega (arith, le, sooner))
