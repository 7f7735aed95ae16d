mod Below
mod Nests
pub mod OneGraph
pub mod Once
pub mod OneShape
pub mod SameTask
pub mod SomeShapes
