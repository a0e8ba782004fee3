-- What functions inside the crate promise each other: no contract of an exported function reaches it.
pub mod ExpressionReading
pub mod Fields
pub mod NameReading
pub mod Resolving
