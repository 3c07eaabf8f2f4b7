-- What is promised.
pub mod Input
