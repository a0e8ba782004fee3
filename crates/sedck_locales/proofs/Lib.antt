pub mod ListWalk
pub mod WrittenTrees
pub mod PosixMatches
pub mod ListLines
pub mod WrittenPrograms
