pub mod Contents
pub mod Spelling
pub mod Kinds
