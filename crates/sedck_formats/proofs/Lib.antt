mod NameParts
pub mod PlainReports
