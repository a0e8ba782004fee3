pub use Rattle.sedck_expressions.specs.Tree
pub use Rattle.sedck_expressions.specs.View
pub use Rattle.sedck_expressions.specs.WellFormed
pub use Rattle.sedck_expressions.specs.Shape
pub use Rattle.sedck_expressions.specs.Brackets
pub use Rattle.sedck_expressions.specs.Faults
pub use Rattle.sedck_expressions.specs.FaultWords
-- What the public contracts cite, in reading order.
pub mod Match
pub mod WideMatch
pub mod Lengths
pub mod Rests
pub mod Laws
pub mod Examples
-- What functions inside the crate promise each other.
pub mod Private
