-- How an update ends: with a certificate in its ranges, or with an error.
use Rattle.std.specs.Prelude.{ℕ, ◌<◌, ◌≢◌, length, Result, Ok, Err}
use Rattle.crpd_base.specs.CertificateRanges.{IsCertificate}
use Rattle.crpd_base.specs.Ranges.{IsTaskSet}
use Rattle.crpd_base.specs.declared.data.Certificate.{Certificate}
use Rattle.cert_build.specs.AnalysisEnds.{IsAnalysable}
use Rattle.cert_update.specs.Answer.{IsUpdateError}
use Rattle.cert_update.specs.Unchanged.{Side}
use Rattle.cert_update.specs.Update.{IsUpdate}
use Rattle.cert_build.specs.declared.error.BuildError.{BuildError}
use Rattle.cert_build.specs.declared.error.BuildError.TheVariants as update

-- how an update ends: with the certificate, in its ranges, or with an error; out of memory is none
abbrev pub IsMadeOrNot : Side → Certificate → Side → Result Certificate BuildError → Type 0
IsMadeOrNot old c new (Ok d) = IsUpdate old c new d × IsCertificate d
IsMadeOrNot old c new (Err e) = (e ≢ update.Memory) × IsUpdateError old c new e

-- it cannot be refuted that there is such an end, of a certificate that has a part for each task
abbrev pub AnUpdateExists : Type 0
AnUpdateExists =
    (old : Side) (c : Certificate) (new : Side) → IsTaskSet new.set
    → ((k : ℕ) → k < length new.set.tasks → IsAnalysable (new.graphs k)) → IsCertificate c
    → ((k : ℕ) → k < length old.set.tasks → k < length c.tasks)
    → ((r : Result Certificate BuildError) → IsMadeOrNot old c new r → ⊥) → ⊥
