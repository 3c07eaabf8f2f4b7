-- To be believed: what the promises speak of.
pub mod Texts
-- What is promised.
pub mod Exact
pub mod Run
pub mod Samples
-- What computes; a law or a clause says that it agrees with what is to be believed.
pub mod Report
