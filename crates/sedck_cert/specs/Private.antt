-- What functions inside the crate promise each other: no contract of an exported function reaches it.
pub mod Checking
pub mod Cuts
pub mod Fields
pub mod Reading
