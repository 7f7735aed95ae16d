-- The steps together: if the checker accepts, no job is late.
pub mod YesIsSafe
pub mod InRange
pub mod Undisturbed
pub mod Within
