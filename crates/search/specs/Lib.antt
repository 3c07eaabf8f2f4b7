-- To be believed: what the promises speak of.
pub mod Search
pub mod TableSearch
pub mod Answer
pub mod Fine
-- What is promised.
pub mod Right
pub mod NextCount
-- What contracts between functions and proofs speak of; no promise does.
pub mod StepRows
pub mod Finds
