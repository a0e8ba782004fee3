-- What the public contracts cite.
pub mod Placed
pub mod Judged
pub mod Scanned
pub mod Delivered
pub mod Lines
-- What functions inside the crate promise each other.
pub mod Private
