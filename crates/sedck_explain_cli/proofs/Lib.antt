mod Common
mod CallStatuses
mod Readings
mod Greatest
mod Reasons
mod Spelled
mod Mended
mod Answered
