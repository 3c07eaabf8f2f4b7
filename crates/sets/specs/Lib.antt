-- To be believed: what the promises speak of.
pub mod Member
