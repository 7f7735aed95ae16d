-- The parts of the analysis are the parts of acceptance, of which a task has one.
use Rattle.std.proofs.Common.{◌≡◌, ℕ, ◌<◌, ◌≤◌, ◌^◌, length, sym, subst, arith}
use Rattle.crpd_base.specs.declared.data.Part.{Part}
use Rattle.crpd_base.specs.declared.data.Platform.{Platform}
use Rattle.crpd_base.specs.declared.data.TaskPart.{TaskPart}
use Rattle.crpd_base.specs.declared.data.TaskSet.{TaskSet}
use Rattle.flat_graph.specs.Graph.{IsGraph}
use Rattle.loop_regions.specs.Nest.{IsNested}
use Rattle.loop_regions.specs.Potentials.{item_potential}
use Rattle.loop_regions.specs.TaskGraph.{TaskGraph}
use Rattle.useful_sets.specs.Useful.{IsUcb, IsEcb}
use Rattle.exec_bound.proofs.GreatestBound.{greatest_is}
use Rattle.exec_bound.proofs.SomeBound.{one_item}
use Rattle.exec_bound.specs.Costs.{greatest_bound}
use Rattle.cert_check.specs.JudgeInput.{accesses_of}
use Rattle.cert_check.specs.ListedPotentials.{potentials_of}
use Rattle.cert_build.specs.Analysis.{HasLargeBound}
use Rattle.cert_build.specs.Best.{IsBestPart}
use Rattle.cert_build.proofs.OneBest.{same_sets}
use Rattle.sensitivity.specs.Accepted.{AreAnalysedParts, IsAnalysedPart, IsLeastBound}
use Rattle.sensitivity.proofs.Bounds.{bound_grows}

-- a bound of at most 2^40 is at most the largest one
pub is_within : (n : ℕ) → n ≤ 2 ^ 40 → n ≤ greatest_bound
is_within n le = subst (λ k. n ≤ k) (sym greatest_is) le

module _ (p : Platform) (t : TaskGraph) where
  pub part_is : (c : TaskPart) → IsBestPart p t c → IsAnalysedPart p t c.part
  part_is c B = record {
    bound = record {
      is_hit = B.is_hit;
      hits = B.hits;
      potentials = potentials_of c;
      least = B.potentials.least;
      first = B.potentials.bound;
    };
    sets = record { evicting = B.evicting; useful = B.useful };
  }

  pub large_bound : IsNested t.graph t.nest → HasLargeBound p t
      → (cycles : ℕ) × IsLeastBound p t cycles × (greatest_bound < cycles)
  large_bound N h =
      let e = h.exceeds in (
        item_potential e.0 e.1,
        record {
          is_hit = h.is_hit;
          hits = h.hits;
          potentials = e.0;
          least = e.2;
          first = λ j item. one_item t.graph t.nest N e.0 t.graph.first e.1 j e.3 item;
        },
        e.4,
      )

  one_bound : IsGraph t.graph → (c d : ℕ) → IsLeastBound p t c → IsLeastBound p t d → c ≡ d
  one_bound G c d C D =
      let le = bound_grows p t p.switch p.switch p.miss p.miss c d G (omega arith) C D in
      let ge = bound_grows p t p.switch p.switch p.miss p.miss d c G (omega arith) D C in
      omega (arith, le, ge)

  pub not_large : IsGraph t.graph → IsNested t.graph t.nest → (c : ℕ) → IsLeastBound p t c
      → c ≤ greatest_bound → HasLargeBound p t → ⊥
  not_large G N c C small h =
      let large = large_bound N h in
      let same = one_bound G c large.0 C large.1 in
      let more = large.2 in absurd (omega (arith, same, small, more))

  pub one_part : IsGraph t.graph → (x y : Part) → IsAnalysedPart p t x → IsAnalysedPart p t y
      → x ≡ y
  one_part G x y X Y =
      let bounds = one_bound G x.bound y.bound X.bound Y.bound in
      let evicting = same_sets x.evicting y.evicting (IsEcb t.graph (accesses_of p t))
      X.sets.evicting Y.sets.evicting in
      let useful = same_sets x.useful y.useful (IsUcb t.graph (accesses_of p t))
      X.sets.useful Y.sets.useful in
      λ i. record { bound = bounds i; evicting = evicting i; useful = useful i }

-- parts of the analysis of all tasks, with bounds of at most 2^40
pub parts_are : (set : TaskSet) (graphs : ℕ → TaskGraph) (parts : ℕ → TaskPart)
    → ((k : ℕ) → k < length set.tasks → IsBestPart set.platform (graphs k) (parts k))
    → ((k : ℕ) → k < length set.tasks → (parts k).part.bound ≤ 2 ^ 40)
    → AreAnalysedParts set graphs (λ k. (parts k).part)
parts_are set graphs parts best small = record {
  each = λ k lt. part_is set.platform (graphs k) (parts k) (best k lt);
  within = λ k lt. is_within (parts k).part.bound (small k lt);
}
