pub mod Ascii
pub mod Html
-- What the public contracts cite, in reading order.
pub mod Positions
pub mod Codes
pub mod Levels
pub mod Files
pub mod Reported
pub mod Shown
