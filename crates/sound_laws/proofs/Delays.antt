-- Step 6: reloads are caused by higher tasks, and those of a window are at most the counts of both
-- delays.
pub mod FromHigher
pub mod UnionCount
pub mod ChoiceCount
pub mod WindowReloads
pub mod NodeCount
pub mod WindowDelays
pub mod Ledgers
pub mod Entries
