mod Common
mod Lists
mod Yes
mod Said
mod Findings
mod Delivered
pub mod Worst
mod Contents
