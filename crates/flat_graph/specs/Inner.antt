-- Inner definitions: no clause of a public call depends on them.
pub mod GraphErrors
pub mod GraphParts
pub mod Leaders
pub mod NumberingOrder
pub mod Reach
pub mod Ordered
pub mod SameCode
pub mod Points
pub mod StoredGraph
pub mod InsFlows
