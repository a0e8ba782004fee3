-- What functions inside the crate promise each other. No public contract cites it.
pub mod EdgeTable
pub mod NodeSet
pub mod Reaching
pub mod KeptSets
pub mod Components
pub mod OtherSide
pub mod Frontier
pub mod Distances
pub mod Closing
pub mod ShortestLoop
pub mod Ranking
pub mod SameRanks
