mod Common
pub mod Answering
pub mod Errors
pub mod Explanations
pub mod Reports
pub mod Kept
mod PartLemmas
mod SaidOfCalls
pub mod KnownBytes
