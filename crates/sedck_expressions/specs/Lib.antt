-- What the public contracts cite, in reading order.
pub mod Tree
pub mod View
pub mod WellFormed
pub mod Shape
pub mod Brackets
pub mod Faults
pub mod FaultWords
pub mod Misjudged
pub mod Reading
pub mod BracketReading
pub mod IntervalReading
pub mod FirstFault
-- What functions inside the crate promise each other.
pub mod Private
