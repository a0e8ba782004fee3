mod Common
pub mod MatchIsWide
pub mod LeastLemmas
pub mod LeastFloor
pub mod LeastReached
pub mod CappedSums
pub mod ExampleProofs
pub mod GroupTexts
pub mod FirstFaults
pub mod LeastLength
pub mod UntouchedGroups
pub mod NamedSums
pub mod LeastRest
pub mod DifferentGroups
pub mod TopGroup
