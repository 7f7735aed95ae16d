-- What only contracts inside the crate cite. No clause of a public call depends on it.
pub mod Standing
pub mod Lists
pub mod Windows
