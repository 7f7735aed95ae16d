pub mod Conflicts
pub mod NextPassing
pub mod Places
pub mod Reading
pub mod Words
pub mod Values
pub mod Inner
