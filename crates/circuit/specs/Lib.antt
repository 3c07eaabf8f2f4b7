-- To be believed: what the promises speak of.
pub mod Logic
pub mod Variables
pub mod Tally
pub mod Gates
pub mod Clauses
-- What is promised.
pub mod Exact
