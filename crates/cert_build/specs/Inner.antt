-- What only contracts inside the crate cite. No clause of a public call depends on it.
pub mod Assembly
pub mod Certify
pub mod Entries
