pub mod Law
mod Names
mod Ranges
mod Shared
mod Tables
pub mod NoMemory
