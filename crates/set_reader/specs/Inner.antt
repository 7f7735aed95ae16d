-- Inner definitions: no clause of a public call depends on them.
pub mod Parts
