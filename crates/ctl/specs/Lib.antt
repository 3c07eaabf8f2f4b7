-- To be believed: what the promises speak of.
pub mod Range
pub mod Meaning
pub mod Rule
pub mod OnPaths
pub mod Kept
pub mod Price
pub mod Rank
-- What is promised.
pub mod Exact
pub mod Duals
pub mod Refused
-- What computes; a law or a clause says that it agrees with what is to be believed.
pub mod Levels
pub mod Labels
pub mod Reached
pub mod Tests
