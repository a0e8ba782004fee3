-- What functions inside the crate promise each other: no contract of an exported function reaches it.
pub mod Along
pub mod BracketCode
pub mod FullReading
pub mod Gives
pub mod Numbering
pub mod Parts
pub mod Sequence
pub mod Sets
