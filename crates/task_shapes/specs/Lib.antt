pub mod Steps
pub mod Inputs
pub mod Graphs
pub mod Shapes
pub mod SameTask
pub mod ShapesEnds
pub mod Inner
