-- What the public contracts cite.
pub mod Denials
pub mod Errors
-- What functions inside the crate promise each other.
pub mod Private
