-- What only contracts inside the crate cite. No clause of a public call depends on it.
pub mod Brought
pub mod Noted
pub mod Paid
