-- What contracts inside the crate and proofs cite.
pub mod Readings
pub mod Said
