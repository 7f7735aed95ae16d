-- Step 4: the block that a full state gives a set was the job's own last fetch there, so a ledger's
-- reloads are their jobs' own.
pub mod OwnFetches
pub mod Checked
pub mod CertifiedRuns
pub mod PartLaws
