-- What functions inside the crate promise each other: no contract of an exported function reaches it.
pub mod Refusals
pub mod Cutting
pub mod Escapes
