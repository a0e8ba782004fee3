-- What functions inside the crate promise each other: no contract of an exported function reaches it.
pub mod AddressReading
pub mod Alike
pub mod CommentReading
pub mod FlagReading
pub mod Forms
pub mod Keeping
pub mod LabelReading
pub mod Locating
pub mod PieceReading
pub mod Progress
pub mod Reading
pub mod ReplacementReading
pub mod VerbReading
