mod Addresses
mod Zipped
mod Lines
mod CertifiedDelays
mod LateLaw
mod MadeText
pub mod Legality
mod Members
pub mod LateLine
pub mod SameSets
