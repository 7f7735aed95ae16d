pub mod WindowLaws
pub mod Choices
pub mod Least
mod Jumps
pub mod SomeWindows
