-- The ranges of a certificate.
use Rattle.std.specs.Prelude.{◌≤◌, All}
use Rattle.crpd_base.specs.Limits.{longest_time}
use Rattle.crpd_base.specs.declared.data.TaskPart.{TaskPart}
use Rattle.crpd_base.specs.declared.data.Certificate.{Certificate}
pub use Rattle.evict_sets.specs.Listing.{HasLowSets}

-- the cache sets of the listed states are below 512, and the windows are at most 2^40
pub record IsCertificateInRange (c : Certificate) : Type 0 where
  pub sets : All HasLowSets c.tasks
  pub windows : All (λ (t : TaskPart). t.window ≤ longest_time) c.tasks
