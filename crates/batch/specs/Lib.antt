-- To be believed: what the promises speak of.
pub mod Batch
-- What is promised.
pub mod Right
-- What computes; a law or a clause says that it agrees with what is to be believed.
pub mod Effect
-- What contracts between functions and proofs speak of; no promise does.
pub mod Needs
