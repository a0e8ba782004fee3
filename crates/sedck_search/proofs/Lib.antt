mod Common
pub mod NodeSets
mod EdgeTables
mod Totals
mod LaneCounts
mod NodeBits
mod NextNode
pub mod Paths
pub mod Counts
pub mod Links
pub mod Scans
pub mod Frontiers
pub mod DistanceLemmas
pub mod ShortestLoops
pub mod ClosedWalks
pub mod Ranks
pub mod RuledOut
mod PlainWalks
mod OtherSide
mod TurnedSets
mod SameRanks
