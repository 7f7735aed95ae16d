pub mod Regions
pub mod PersistentPart
pub mod Laws
pub mod OneLoop
pub mod NestedLoops
pub mod LoopWithCall
pub mod Inner
