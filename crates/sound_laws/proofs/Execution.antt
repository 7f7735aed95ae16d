-- Step 5: the bound, plus the cost of a miss for each reload, pays for the execution.
pub mod Longests
pub mod Paid
pub mod Spends
pub mod Certified
pub mod Executed
pub mod Spent
