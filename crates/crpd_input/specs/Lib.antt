pub mod Causes
pub mod Steps
pub mod Reading
pub mod Script
pub mod Shapes
pub mod Asking
