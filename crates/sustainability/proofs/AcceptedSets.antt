-- An accepted set stays accepted with looser times.
use Rattle.std.proofs.Common.{◌≡◌, ℕ, ◌≤◌, sym, ap, subst, arith}
use Rattle.crpd_base.specs.Tasks.{HasTimes}
use Rattle.crpd_base.specs.declared.data.Part.{Part}
use Rattle.crpd_base.specs.declared.data.Platform.{Platform}
use Rattle.crpd_base.specs.declared.data.TaskSet.{TaskSet}
use Rattle.loop_regions.specs.TaskGraph.{TaskGraph}
use Rattle.response.specs.Windows.{chosen_window}
use Rattle.cert_check.specs.JudgeInput.{longest_of, longest_at}
use Rattle.sensitivity.specs.Accepted.{IsAccepted, IsAnalysedPart, AreAnalysedParts}
use Rattle.sustainability.specs.Workload.{Workload, IsLooser, IsNoDearer, IsNoMoreDemanding}
use Rattle.sustainability.specs.SetLaws.{IsAcceptedWithin, AcceptedSetsAreSustainable}
use Rattle.sustainability.proofs.Windows.{windows_are_sustainable}

-- the same platform costs no more
pub same_platform : (less more : Platform) → less ≡ more → IsNoDearer less more
same_platform less more e =
    let miss = ap (λ (p : Platform). p.miss) e in
    let switch = ap (λ (p : Platform). p.switch) e in
    record {
      switching = ap (λ (p : Platform). p.switching) e;
      miss = omega (arith, miss);
      switch = omega (arith, switch);
    }

-- and has the same longest instructions
pub same_longest : (less more : Platform) (t : TaskGraph) → less ≡ more
    → longest_of less t ≤ longest_of more t
same_longest less more t e =
    let same = ap (λ (p : Platform). longest_of p t) e in omega (arith, same)

module _ (origin : ℕ → ℕ) (less more : TaskSet) (graphs : ℕ → TaskGraph) (T : HasTimes more)
    (L : IsLooser origin less more) (a : IsAccepted more graphs) where
  abbrev kept : ℕ → TaskGraph
  kept k = graphs (origin k)

  abbrev parts : ℕ → Part
  parts k = a.parts (origin k)

  are : AreAnalysedParts less kept parts
  are = record {
    each = λ k l.
        subst (λ p. IsAnalysedPart p (graphs (origin k)) (a.parts (origin k))) (sym L.platform)
        (a.are.each (origin k) (L.order.within k l));
    within = λ k l. a.are.within (origin k) (L.order.within k l);
  }

  abbrev less_load : Workload
  less_load = record { set = less; parts = parts; longest = longest_at less.platform kept }

  abbrev more_load : Workload
  more_load = record { set = more; parts = a.parts; longest = longest_at more.platform graphs }

  no_more : IsNoMoreDemanding origin less_load more_load
  no_more = record {
    order = L.order;
    platform = same_platform less.platform more.platform L.platform;
    times = L.times;
    parts = λ k l. record { bound = omega arith; evicting = λ c h. h; useful = λ c h. h };
    longest = λ k l. same_longest less.platform more.platform (graphs (origin k)) L.platform;
  }

  pub stays_accepted : IsAcceptedWithin origin less kept (chosen_window a.choices)
  stays_accepted =
      let W = windows_are_sustainable origin less_load more_load a.choices T no_more a.windows in
      record {
        accepted = record { parts = parts; are = are; choices = W.choices; windows = W.are };
        no_longer = W.no_longer;
      }

pub accepted_are_sustainable : AcceptedSetsAreSustainable
accepted_are_sustainable origin less more graphs T L a =
    stays_accepted origin less more graphs T L a
