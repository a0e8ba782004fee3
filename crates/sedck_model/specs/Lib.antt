-- What the public contracts cite, in reading order.
pub mod Spots
pub mod States
-- What functions inside the crate promise each other.
pub mod Private
