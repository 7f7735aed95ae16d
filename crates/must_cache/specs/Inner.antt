-- What only contracts inside the crate cite, of `Marks` and `MarkLaws` also those inside
-- `useful_sets`. No clause of a public call depends on it.
pub mod EdgeLists
pub mod FirstWalks
pub mod GraphFacts
pub mod Held
pub mod HeldLaws
pub mod MarkLaws
pub mod Marks
