-- How the certificate of a set by a demand ends: with the certificate, or with an error.
use Rattle.std.specs.Prelude.{◌≡◌, ◌≢◌, ℕ, ◌<◌, length, Result, Ok, Err}
use Rattle.crpd_base.specs.CertificateRanges.{IsCertificate}
use Rattle.crpd_base.specs.Ranges.{IsTaskSet}
use Rattle.crpd_base.specs.declared.data.Certificate.{Certificate}
use Rattle.crpd_base.specs.declared.data.Method.{Method}
use Rattle.crpd_base.specs.declared.data.Part.{Part}
use Rattle.crpd_base.specs.declared.data.TaskSet.{TaskSet}
use Rattle.loop_regions.specs.TaskGraph.{TaskGraph}
use Rattle.cert_build.specs.AnalysisEnds.{IsAnalysable}
use Rattle.cert_build.specs.Best.{Demands, IsAnalysisBy}
use Rattle.cert_build.specs.Certify.{IsRefusedBy}
use Rattle.cert_build.specs.declared.error.BuildError.{BuildError}
use Rattle.cert_build.specs.declared.error.BuildError.TheVariants as build

-- a demand is determined by the parts and the longest instructions of the tasks, and the windows of
-- the higher ones
abbrev pub AreDetermined : TaskSet → Demands → Type 0
AreDetermined set demands =
    (parts others : ℕ → Part) (longest further : ℕ → ℕ)
    → ((k : ℕ) → k < length set.tasks → parts k ≡ others k)
    → ((k : ℕ) → k < length set.tasks → longest k ≡ further k)
    → (window other : ℕ → ℕ) (i : ℕ) → i < length set.tasks
    → ((k : ℕ) → k < i → window k ≡ other k) → (method : Method) (w : ℕ) →
    demands parts longest window i method w ≡ demands others further other i method w

-- how a certificate by a demand ends: with the analysis' certificate, in its ranges, or with an
-- error; out of memory is none
abbrev pub IsBuildEnd : TaskSet → Demands → (ℕ → TaskGraph) → Result Certificate BuildError → Type 0
IsBuildEnd set demands graphs (Ok c) = IsAnalysisBy set demands graphs c × IsCertificate c
IsBuildEnd set demands graphs (Err e) = (e ≢ build.Memory) × IsRefusedBy set demands graphs e

-- it cannot be refuted that there is such an end
abbrev pub ACertificateExists : Type 0
ACertificateExists =
    (set : TaskSet) (demands : Demands) (graphs : ℕ → TaskGraph) → IsTaskSet set
    → ((k : ℕ) → k < length set.tasks → IsAnalysable (graphs k)) → AreDetermined set demands
    → ((r : Result Certificate BuildError) → IsBuildEnd set demands graphs r → ⊥) → ⊥
