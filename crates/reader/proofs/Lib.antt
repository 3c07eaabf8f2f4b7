pub mod Stores
pub mod PackedSheet
pub mod Packing
pub mod ReadGives
pub mod Found
pub mod Sample
pub mod Readings
