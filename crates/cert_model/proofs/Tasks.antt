-- The keys of a task, the first two read together, are read in sequence.
use Rattle.std.proofs.Common.{◌≡◌, ℕ, List}
use Rattle.crpd_base.proofs.Results.{bind_assoc}
use Rattle.serde_json.specs.Data.{Members}
use Rattle.cert_model.specs.declared.version.Version.{Version}
use Rattle.cert_model.specs.Inner.Tasks as inner
use Rattle.cert_model.specs.Reading.{fields_at}

pub one_by_one : (version : Version) (path : List ℕ) (ms : Members)
    → inner.fields_at version path ms ≡ fields_at version path ms
unfolding inner.fields_at inner.bound_and_evicting fields_at
one_by_one version path ms = simp bind_assoc
