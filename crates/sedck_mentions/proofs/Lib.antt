pub mod Ends
pub mod Starts
pub mod Here
pub mod Each
