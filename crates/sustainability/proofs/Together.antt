-- An accepted set stays accepted with all changes together.
use Rattle.std.proofs.Common.{ℕ, ◌<◌, ◌≤◌, length, arith}
use Rattle.crpd_base.specs.Tasks.{HasTimes}
use Rattle.crpd_base.specs.declared.data.TaskSet.{TaskSet}
use Rattle.loop_regions.specs.TaskGraph.{TaskGraph}
use Rattle.response.specs.Windows.{chosen_window}
use Rattle.sensitivity.specs.Accepted.{IsAccepted}
use Rattle.sensitivity.specs.Costs.{with_costs}
use Rattle.sensitivity.specs.Laws.{IsLoopBounded, AreDearer, StaysAccepted, WindowsGrow}
use Rattle.sustainability.specs.Workload.{IsLooser}
use Rattle.sustainability.specs.SetLaws.{IsAcceptedWithin}
use Rattle.sustainability.specs.LoopBounds.{with_bounds}
use Rattle.sustainability.specs.Together.{AreNoLarger, AcceptanceIsSustainable}
use Rattle.sustainability.proofs.AcceptedSets.{stays_accepted}
use Rattle.sustainability.proofs.LoopBounds.{accepted_within, loop_bounded}

module _ (stays : StaysAccepted) (grow : WindowsGrow) (origin : ℕ → ℕ) (less more : TaskSet)
    (graphs : ℕ → TaskGraph) (switch miss : ℕ) (bounds : ℕ → ℕ → ℕ) (T : HasTimes more)
    (S : (k : ℕ) → k < length more.tasks → IsLoopBounded (graphs k))
    (E : AreNoLarger more graphs switch miss bounds)
    (L : IsLooser origin less (with_costs more switch miss)) (a : IsAccepted more graphs) where
  abbrev bounded : ℕ → TaskGraph
  bounded k = with_bounds (graphs k) (bounds k)

  -- first with smaller loop bounds
  loops : IsAcceptedWithin (λ k. k) more bounded (chosen_window a.choices)
  loops = accepted_within more graphs bounds T S E.loops a

  dearer : AreDearer more bounded switch miss more.platform.switch more.platform.miss
  dearer = record {
    times = T;
    bounded = λ k l. loop_bounded (graphs k) (bounds k) (S k l);
    switch = E.switches;
    miss = E.misses;
  }

  -- then with smaller costs
  costs : IsAccepted (with_costs more switch miss) bounded
  costs =
      stays more bounded switch miss more.platform.switch more.platform.miss dearer loops.accepted

  costs_le : (k : ℕ) → k < length more.tasks
      → chosen_window costs.choices k ≤ chosen_window loops.accepted.choices k
  costs_le k l =
      grow more bounded switch miss more.platform.switch more.platform.miss dearer costs
      loops.accepted k l

  times : HasTimes (with_costs more switch miss)
  times = record {
    tasks = T.tasks;
    period = T.period;
    longest = T.longest;
    deadline = T.deadline;
    jitter = T.jitter;
  }

  -- then with looser times
  together : IsAcceptedWithin origin less (λ k. bounded (origin k)) (chosen_window a.choices)
  together =
      let W = stays_accepted origin less (with_costs more switch miss) bounded times L costs in
      record {
        accepted = W.accepted;
        no_longer = λ k l.
            let within = L.order.within k l in
            let x = W.no_longer k l in
            let y = costs_le (origin k) within in
            let z = loops.no_longer (origin k) within in
            omega (arith, x, y, z);
      }

pub acceptance_is_sustainable : StaysAccepted → WindowsGrow → AcceptanceIsSustainable
acceptance_is_sustainable stays grow origin less more graphs switch miss bounds T S E L a =
    together stays grow origin less more graphs switch miss bounds T S E L a
