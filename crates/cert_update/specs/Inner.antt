-- What only contracts inside the crate cite. No clause of a public call depends on it.
pub mod Coded
pub mod GraphComparison
pub mod Parts
pub mod Sources
