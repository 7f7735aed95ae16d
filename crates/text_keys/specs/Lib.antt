pub mod Paths
pub mod Named
pub mod TomlKeys
