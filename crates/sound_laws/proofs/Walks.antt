-- Step 3: a job under an unbroken watch makes a kept walk of its graph.
pub mod Stands
pub mod Walked
pub mod KeptWalks
pub mod NoFaults
pub mod CheckedRuns
