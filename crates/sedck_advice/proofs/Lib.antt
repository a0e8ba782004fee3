mod Common
pub mod Added
pub mod WeightLemmas
