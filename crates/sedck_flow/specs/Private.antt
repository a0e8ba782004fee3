-- What functions inside the crate promise each other: no contract of an exported function reaches it.
pub mod EdgeList
pub mod Fits
pub mod Least
