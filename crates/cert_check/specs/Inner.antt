-- What only contracts inside the crate cite. No clause of a public call depends on it.
pub mod FirstFailing
pub mod JudgedNodes
pub mod JudgedPotentials
pub mod Times
