pub mod Engines
pub mod Reports
