-- Counts that several steps use.
pub mod Counting
