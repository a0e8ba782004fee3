pub mod Texts
pub mod Traced
