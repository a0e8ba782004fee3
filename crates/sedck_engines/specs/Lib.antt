-- What the public contracts cite, in reading order.
pub use Rattle.sedck_script.specs.Program
pub use Rattle.sedck_flow.specs.Nodes
pub use Rattle.sedck_flow.specs.Flow
pub use Rattle.sedck_flow.specs.Words
pub use Rattle.sedck_cert.specs.Certificate
pub use Rattle.sedck_cert.specs.Headline
pub use Rattle.sedck_search.specs.Found
pub mod Inputs
pub mod Opened
pub mod Reports
pub mod Engines
pub mod Faults
-- What functions inside the crate promise each other.
pub mod Private
