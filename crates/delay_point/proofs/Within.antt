-- The delay by program point is at most the ECB-union multiset delay.
use Rattle.std.proofs.Common.{◌≡◌, ℕ, suc, ◌<◌, ◌≤◌, Bool, true, ◌&&◌, length, arith}
use Rattle.std.proofs.Common.{inl, inr, if◌then◌else◌}
use Rattle.std.proofs.Math.Nat.{mul-le-mul_left}
use Rattle.std.proofs.lemmas.Bool.{cases_Bool}
use Rattle.crpd_base.proofs.Sums.{sum_le}
use Rattle.crpd_base.specs.declared.data.Part.{Part}
use Rattle.crpd_base.specs.declared.data.TaskSet.{TaskSet}
use Rattle.crpd_base.specs.Sets.{has}
use Rattle.loop_regions.specs.TaskGraph.{TaskGraph}
use Rattle.delay_count.specs.Counts.{jobs_of, affected_preemptions}
use Rattle.delay_count.specs.Gamma.{evicted_from, shared_count, shared_sets, gamma_ecb}
use Rattle.delay_count.proofs.Choices.{choice_le}
use Rattle.delay_count.proofs.Greatest.{greatest_le}
use Rattle.cert_build.specs.Certify.{part_in}
use Rattle.delay_point.specs.Gamma.{SetsAtNodes, point_shared, gamma_point}
use Rattle.delay_point.specs.Laws.{PointWithinEcb}
use Rattle.delay_point.specs.PartWindows.{PartPointWithinEcb}

-- more useful sets share at least as many
shared_le : (useful more evicted : ℕ → Bool) (sets : ℕ)
    → ((c : ℕ) → useful c ≡ true → more c ≡ true)
    → shared_count useful evicted sets ≤ shared_count more evicted sets
unfolding shared_count
shared_le useful more evicted sets h =
    sum_le (λ c. if useful c && evicted c then 1 else 0) (λ c. if more c && evicted c then 1 else 0)
    sets (λ c l. elim (cases_Bool (useful c)) [
      | inl b ↦ let m = h c b in rw (b, m) (omega arith)
      | inr b ↦ rw b (omega arith)
    ])

-- parts whose sets include those of their nodes
module _ (set : TaskSet) (graphs : ℕ → TaskGraph) (parts : ℕ → Part) (useful : SetsAtNodes)
    (all : (k y z : ℕ) → k < length set.tasks → y < (graphs k).graph.size
    → useful k y z ≡ true → has (parts k).useful z ≡ true) where
  node_in_task : (j k : ℕ) → k < length set.tasks
      → point_shared graphs useful parts j k ≤ shared_sets parts j k
  node_in_task j k l =
      greatest_le (λ y. shared_count (useful k y) (evicted_from parts j) 512) 0
      (graphs k).graph.size (shared_sets parts j k)
      (λ y h. shared_le (useful k y) (has (parts k).useful) (evicted_from parts j) 512
      (λ z b. all k y z l h b))

  within_ecb : (window : ℕ → ℕ) (w i j : ℕ) → i < length set.tasks
      → gamma_point set (point_shared graphs useful parts) window w i j
      ≤ gamma_ecb set parts window w i j
  within_ecb window w i j below =
      mul-le-mul_left set.platform.miss
      (choice_le (point_shared graphs useful parts j) (shared_sets parts j)
      (affected_preemptions set window w i j) (affected_preemptions set window w i j) (suc i)
      (jobs_of set j w) (jobs_of set j w)
      (λ k h. node_in_task j k (omega arith)) (λ k h. omega arith)
      (omega arith))

pub point_within_ecb : PointWithinEcb
point_within_ecb set graphs c useful window w i j B U below =
    within_ecb set graphs (part_in c.tasks) useful
    (λ k y z l h b. ((B.each k l).useful.numbers z).1 (y, h, (U k y z l h).0 b)) window w i j below

pub part_point_within_ecb : PartPointWithinEcb
part_point_within_ecb set graphs parts window w i j sound below =
    within_ecb set graphs (λ k. (parts k).part) (λ k. (parts k).useful)
    (λ k y z l h b. (sound k l).all y z h b) window w i j below
