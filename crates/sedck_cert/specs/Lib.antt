pub use Rattle.sedck_script.specs.Program
pub use Rattle.sedck_script.specs.Spelling
pub use Rattle.sedck_script.specs.Names
pub use Rattle.sedck_script.specs.Invariant
pub use Rattle.sedck_flow.specs.Run
pub use Rattle.sedck_flow.specs.Nodes
pub use Rattle.sedck_flow.specs.Flow
pub use Rattle.sedck_flow.specs.Spaces
-- What the public contracts cite, in reading order.
pub mod Headline
pub mod Everywhere
pub mod Certificate
pub mod View
pub mod Text
pub mod Versions
pub mod Ranked
pub mod Rejections
pub mod Bounds
pub mod StepLimit
pub mod SpaceLimit
pub mod Limits
pub mod Faults
pub mod FaultText
pub mod Streams
pub mod Laws
-- What is said of certificates of version 1 alone.
pub mod VersionOne
-- What functions inside the crate promise each other.
pub mod Private
