pub mod Kinds
pub mod Keys
pub mod Reading
pub mod Writing
pub mod Inner
