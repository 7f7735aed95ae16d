pub mod Gamma
pub mod Chosen
pub mod Refined
pub mod PartWindows
pub mod RefineErrors
pub mod Laws
pub mod Inner
