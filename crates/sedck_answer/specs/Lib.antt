-- What the public contracts cite, in reading order.
pub mod Status
pub mod Answers
