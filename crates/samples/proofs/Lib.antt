pub mod Once
pub mod Samples
pub mod Families
pub mod Prices
pub mod Settled
pub mod Holding
