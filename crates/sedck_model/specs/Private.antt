pub mod Lists
pub mod Relations
pub mod Candidates
pub mod Replacing
pub mod Verbs
