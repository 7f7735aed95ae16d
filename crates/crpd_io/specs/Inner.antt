-- What only the crate's own functions and proofs cite.
pub mod Fill
