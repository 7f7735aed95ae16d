-- What only contracts inside the crate cite. No clause of a public call depends on it.
pub mod Account
pub mod FollowLaws
pub mod Notes
pub mod Runs
pub mod Searches
pub mod Trails
pub mod Walks
