-- What the public contracts cite, in reading order.
pub mod Statuses
pub mod Causes
pub mod Lines
-- What functions inside the crate promise each other.
pub mod Private
