pub mod Judged
pub mod Front
pub mod Parcel
pub mod Stored
