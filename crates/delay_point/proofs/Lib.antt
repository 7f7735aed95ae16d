mod Within
mod Walks
mod Holds
pub mod One
mod OneEnd
mod NoLonger
pub mod Alike
mod Shared
mod Further
mod Stands
mod Values
pub mod Best
pub mod ChosenParts
mod Listed
mod Joined
pub mod SomeRefinement
