pub mod Ending
pub mod LineParts
mod ExactAnswers
