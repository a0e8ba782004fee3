pub mod Options
pub mod Words
pub mod Calls
pub mod Scripts
pub mod Origins
pub mod Private
