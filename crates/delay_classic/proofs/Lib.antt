mod Useful
mod Lists
pub mod Within
mod Shorter
mod Charges
pub mod Choices
mod Best
mod Same
mod Rows
mod OneClassic
