mod Solution
mod Chain
mod Steps
mod Left
mod Writes
mod Waiting
mod Depth
mod Ordered
