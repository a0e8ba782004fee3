pub mod Denials
mod Offsets
