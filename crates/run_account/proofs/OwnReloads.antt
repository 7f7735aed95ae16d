-- The laws on own reloads, from the lemmas on their steps and fetches.
use Rattle.std.proofs.Common.{refl}
use Rattle.run_account.specs.Reloads.{EvictorIsOther}
use Rattle.run_account.specs.Reloads.{OneReloadPerEvictorAndSet, OneJobPerPreemptor}
use Rattle.run_account.specs.Reloads.{OneGapPerPreemptor}
use Rattle.run_account.proofs.Gaps.{one_gap_per_preemptor}
use Rattle.run_account.proofs.Preemptors.{same_reload}
use Rattle.run_account.proofs.ReloadLaws.{evictor_is_other, one_job_of}
use Rattle.run_account.proofs.ReloadLaws.{one_reload_per_evictor_and_set}

pub evictor_law : EvictorIsOther
evictor_law s r y e cached =
    evictor_is_other s r.job r.time r.own_time r.fetch r.own y e.time e.fetch cached r.is e.is

pub one_evictor_law : OneReloadPerEvictorAndSet
one_evictor_law s q r y cached d e same =
    one_reload_per_evictor_and_set s q.job q.time q.own_time q.fetch q.own r.job r.time r.own_time
    r.fetch r.own y d.time e.time d.fetch e.fetch cached q.is r.is same d.is e.is

pub one_preemptor_law : OneJobPerPreemptor
one_preemptor_law = record {
  one_job = λ s q r p cached d e.
      one_job_of s q.job q.time q.fetch r.job r.time r.fetch p d.from d.time d.until e.from e.time
      e.until d.is e.is;
  one_reload = λ s q r p cached d e same.
      (same_reload s q.job q.time q.own_time q.fetch q.own r.job r.time r.own_time r.fetch r.own p p
      d.from d.time d.until e.from e.time e.until cached q.is r.is same d.is e.is refl).1;
}

pub one_gap_law : OneGapPerPreemptor
one_gap_law s x p t t' f f' q r =
    one_gap_per_preemptor s x p t q.from q.time q.until t' r.from r.time r.until f f' q.is r.is
