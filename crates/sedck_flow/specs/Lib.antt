pub use Rattle.sedck_text.specs.Bytes
pub use Rattle.sedck_bre.specs.Tree
pub use Rattle.sedck_bre.specs.Match
pub use Rattle.sedck_bre.specs.WideMatch
pub use Rattle.sedck_bre.specs.Lengths
pub use Rattle.sedck_bre.specs.Rests
pub use Rattle.sedck_script.specs.Program
pub use Rattle.sedck_script.specs.Invariant
pub use Rattle.sedck_script.specs.Shortest
pub use Rattle.sedck_script.specs.References
pub use Rattle.sedck_script.specs.View
-- What the public contracts cite, in reading order.
pub mod Run
pub mod Substitutes
pub mod WideRun
pub mod Characters
pub mod CharacterRun
pub mod Patterns
pub mod Nodes
pub mod Flow
pub mod Spaces
pub mod Words
pub mod Laws
pub mod Examples
-- What is said of certificates of version 1 alone.
pub mod VersionOne
pub mod LiteralKinds
-- What functions inside the crate promise each other.
pub mod Private
