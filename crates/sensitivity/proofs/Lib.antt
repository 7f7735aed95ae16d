mod Costs
pub mod Bounds
pub mod Compared
mod Acceptance
pub mod Slacks
mod Parts
pub mod Trials
pub mod AnyRegions
mod BestParts
pub mod SomeSlack
pub mod Certified
pub mod Responses
