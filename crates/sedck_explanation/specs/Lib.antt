-- What the public contracts cite, in reading order.
pub mod Answers
pub mod Denial
pub mod Errors
pub mod Explanations
pub mod Called
-- What functions inside the crate promise each other.
pub mod Private
