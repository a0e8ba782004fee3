pub mod Bytes
pub mod Text
pub mod Classes
pub mod Runs
pub mod Cursors
