-- Inner definitions: no clause of a public call depends on them.
pub mod Platforms
pub mod Ranges
pub mod Tasks
pub mod Tokens
