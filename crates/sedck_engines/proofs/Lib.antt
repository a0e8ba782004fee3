mod Common
pub mod Inputs
pub mod Answering
pub mod GraphLines
