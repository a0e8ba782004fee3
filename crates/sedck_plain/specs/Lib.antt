pub use Rattle.sedck_script.specs.Program
pub use Rattle.sedck_script.specs.Spelling
pub use Rattle.sedck_script.specs.Faults
-- What the public contracts cite, in reading order.
pub mod WrittenLists
pub mod Plain
pub mod Mended
-- What functions inside the crate promise each other.
pub mod Private
