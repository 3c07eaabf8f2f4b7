pub mod Laws
pub mod SetOf
pub mod Collecting
pub mod Walk
mod Words
