pub mod Problem
pub mod Variable
pub mod VariableLaws
pub mod Edges
pub mod Inner
