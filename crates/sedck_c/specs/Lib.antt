pub use Rattle.sedck_script.specs.Program
pub use Rattle.sedck_cert.specs.Headline
pub use Rattle.sedck_engines.specs.Engines
-- What the exported contracts cite.
pub mod Answers
-- What functions inside the crate promise each other.
pub mod Private
