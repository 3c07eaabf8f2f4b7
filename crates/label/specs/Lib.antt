-- To be believed: what the promises speak of.
pub mod ReadingOrder
-- What is promised.
pub mod Exact
pub mod TotalWithRoom
-- What computes; a law or a clause says that it agrees with what is to be believed.
pub mod Analysis
pub mod Calls
-- What contracts between functions and proofs speak of; no promise does.
pub mod Words
