-- Steps 4 and 5 for any sound part: its reloads are its jobs' own, and what its states hold is in
-- credit or the job's own.
use Rattle.std.proofs.Common.{◌≡◌, ◌≢◌, ◌⊎◌, ℕ, ◌<◌, true, length, Some, sym, ◌∙◌, ap, inl, inr}
use Rattle.std.proofs.lemmas.Bool.{and_parts}
use Rattle.crpd_base.specs.declared.data.TaskSet.{TaskSet}
use Rattle.icache.specs.Accesses.{Accesses, accesses, last_access}
use Rattle.flow_watch.specs.Watch.{is_unbroken}
use Rattle.loop_regions.specs.TaskGraph.{TaskGraph}
use Rattle.walk_parts.specs.Credit.{Payments, in_credit, After, ArePrepaid}
use Rattle.walk_parts.proofs.Credits.{prepaid, prepaid_after}
use Rattle.preempt_machine.specs.Step.{is_open, is_owner, Start}
use Rattle.preempt_machine.specs.Safe.{NamesTasks}
use Rattle.run_account.specs.Fetches.{job_after}
use Rattle.run_account.specs.Nodes.{job_task, node_of_job}
use Rattle.run_account.specs.Reloads.{HasOwn}
use Rattle.run_account.specs.Walks.{fetched_nodes}
use Rattle.run_account.proofs.Owners.{candidate_at, owns_true}
use Rattle.sound_laws.specs.Walks.{HasTaskRanges, IsCodeOf, IsFollowed, before_of}
use Rattle.sound_laws.specs.CyclesToGo.{walk_of}
use Rattle.sound_laws.specs.PartLaws.{HoldsPrepaid, PartPaysExecution, PartReloadsAreOwn}
use Rattle.sound_laws.specs.PartLaws.{PrepaidFetches}
use Rattle.sound_laws.proofs.Walks.Walked.{before_fresh}
use Rattle.sound_laws.proofs.Execution.Executed.{execution, some_rest}
use Rattle.sound_laws.proofs.Reloads.OwnFetches.{acc, on_walk, own_of, there, part_reload}

pub part_pays_execution : PartPaysExecution
part_pays_execution s set graphs part n x R C F P =
    record {
      within = execution s set graphs R C F.tasks part x F.job P n F.unbroken;
      some_rest = λ o. some_rest s set graphs R C F.tasks part x F.job P n o F.unbroken;
    }

pub part_reloads_are_own : PartReloadsAreOwn
part_reloads_are_own s set graphs part n x R C F P b =
    let both = and_parts (is_owner (candidate_at s n) x) _ b in
    let r = part_reload s set graphs R C F.tasks x F.job part P n F.unbroken
    (owns_true (candidate_at s n) x both.0) both.1 in
    record { own_time = r.own_time; own = r.own; reload = r.reload; in_set = r.in_set }

module _ (s : Start) (set : TaskSet) (graphs : ℕ → TaskGraph) (R : HasTaskRanges set)
    (C : IsCodeOf s.system set graphs) (T : NamesTasks set s.lines) (x : ℕ)
    (h : x < length s.lines) (pay : Payments) (holds : ℕ → ℕ → ℕ → Type 0)
    (P : ArePrepaid (graphs (job_task s x)).graph (acc s set graphs R C T x h) pay holds)
    (n : ℕ) (k : is_unbroken (job_after s n x).watch ≡ true)
    (o : is_open (job_after s n x).standing ≡ true) where
  abbrev a : Accesses
  a = acc s set graphs R C T x h

  abbrev t : TaskGraph
  t = graphs (job_task s x)

  abbrev node : ℕ
  node = node_of_job (graphs (job_task s x)) (job_after s n x)

  between : (job_after s n x).left ≡ 0 → (c m : ℕ) → holds node c m
      → (in_credit a pay c (walk_of t (job_after s n x) (fetched_nodes s graphs n x)) ≡ true)
      ⊎ HasOwn s x c n m
  between l c m held =
      elim (prepaid (graphs (job_task s x)).graph (acc s set graphs R C T x h) pay holds P node c m
      (before_of (job_after s n x) (fetched_nodes s graphs n x))
      (on_walk s set graphs R C T x h n k o).walked.walk held) [
        | inl credit ↦ inl credit
        | inr last ↦
            inr (own_of s set graphs R C T x h n c m k
            (ap (last_access (acc s set graphs R C T x h) c)
            (sym (before_fresh (job_after s n x) (fetched_nodes s graphs n x) l)) ∙ last))
      ]

  within : (job_after s n x).left ≢ 0 → (c m : ℕ) → After a holds node c m
      → ((a.set node ≢ c)
      × (in_credit a pay c (walk_of t (job_after s n x) (fetched_nodes s graphs n x)) ≡ true))
      ⊎ HasOwn s x c n m
  within l c m held =
      elim (prepaid_after (graphs (job_task s x)).graph (acc s set graphs R C T x h) pay holds P
      node c m (before_of (job_after s n x) (fetched_nodes s graphs n x))
      (on_walk s set graphs R C T x h n k o).walked.walk held) [
        | inl credit ↦ inl credit
        | inr last ↦
            inr (own_of s set graphs R C T x h n c m k
            (ap (last_access (acc s set graphs R C T x h) c)
            ((on_walk s set graphs R C T x h n k o).under_way l) ∙ last))
      ]

-- by any states that are paid for
pub holds_prepaid : (s : Start) (set : TaskSet) (graphs : ℕ → TaskGraph) (pay : Payments)
    (holds : ℕ → ℕ → ℕ → Type 0) (n x : ℕ) → HasTaskRanges set → IsCodeOf s.system set graphs
    → IsFollowed set s n x → is_open (job_after s n x).standing ≡ true
    → ArePrepaid (graphs (job_task s x)).graph
    (accesses s.system.platform (graphs (job_task s x)).places.address) pay holds
    → HoldsPrepaid s graphs pay holds n x
holds_prepaid s set graphs pay holds n x R C F o P =
    record {
      node = node_of_job (graphs (job_task s x)) (job_after s n x);
      at = there s set graphs R C F.tasks x F.job n F.unbroken o;
      between = between s set graphs R C F.tasks x F.job pay holds P n F.unbroken o;
      within = within s set graphs R C F.tasks x F.job pay holds P n F.unbroken o;
    }

pub prepaid_fetches : PrepaidFetches
prepaid_fetches s set graphs pay state n x R C F o P =
    holds_prepaid s set graphs pay (λ y z m. state y z ≡ Some m) n x R C F o P
