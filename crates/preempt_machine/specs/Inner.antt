-- Definitions on which no clause of a public call of the machine depends: the order of its jobs and
-- what its private calls make of it.
pub mod Decodings
pub mod Jobs
pub mod KeptFlag
pub mod Parts
pub mod Queue
pub mod Schedule
pub mod Addresses
pub mod Moves
pub mod Stretches
