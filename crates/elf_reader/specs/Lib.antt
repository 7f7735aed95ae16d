pub mod Fields
pub mod Reading
pub mod Segments
pub mod Symbols
