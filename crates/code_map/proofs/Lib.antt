mod First
mod Found
pub mod KeptWords
mod Sweep
mod Gathered
pub mod Has
pub mod Indexed
mod Valued
mod Planned
mod Meaning
mod NextWord
mod Rows
pub mod NoMemory
