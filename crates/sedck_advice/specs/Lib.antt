-- What the public contracts cite.
pub mod Added
pub mod Slow
pub mod References
pub mod Locale
pub mod Ignored
-- What functions inside the crate promise each other.
pub mod Private
