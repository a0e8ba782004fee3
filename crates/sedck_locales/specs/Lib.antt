-- What the public contracts cite, in reading order.
pub mod Written
pub mod Locales
pub mod Laws
