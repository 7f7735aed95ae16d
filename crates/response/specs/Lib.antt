pub mod Windows
pub mod WindowEnds
pub mod Inner
