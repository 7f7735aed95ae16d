-- Inner definitions: no clause of a public call depends on them.
pub mod Conflicts
pub mod Joined
pub mod NextPassing
pub mod Pieces
pub mod Runs
pub mod StoredFiles
