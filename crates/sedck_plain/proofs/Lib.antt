pub mod SetLemmas
pub mod PlainLemmas
pub mod CutLemmas
pub mod LeftLemmas
pub mod WrittenLemmas
pub mod MendedLemmas
