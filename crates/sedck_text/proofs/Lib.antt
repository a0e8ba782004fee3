pub mod Runs
pub mod Cursors
