pub mod Requests
pub mod Places
