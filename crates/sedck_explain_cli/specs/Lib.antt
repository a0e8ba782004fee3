-- What the public contracts cite.
pub mod Mended
pub mod CallStatus
pub mod Readings
pub mod Requests
pub mod Spelled
pub mod Explained
-- What functions inside the crate promise each other.
pub mod Private
pub mod Statuses
pub mod Answers
