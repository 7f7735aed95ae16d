-- What only contracts inside the crate cite. No clause of a public call depends on it.
pub mod ForwardPaths
pub mod FoundRegions
pub mod Heads
pub mod Least
pub mod Ranges
pub mod RegionLists
pub mod StoredNest
