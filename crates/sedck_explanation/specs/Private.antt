pub mod Answering
pub mod Errors
pub mod Explaining
pub mod Reporting
