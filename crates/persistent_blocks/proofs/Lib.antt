pub mod SetWords
pub mod SoundPart
pub mod OnePart
mod Computed
pub mod SomePart
mod Tests
mod TestedBounds
mod Worked
mod OneLoop
mod NestedLoops
mod LoopWithCall
mod NoRegions
mod Noting
mod RegionEvents
mod PaidTable
mod PartFound
mod Removed
