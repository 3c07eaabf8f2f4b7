-- What contracts between functions and proofs speak of; no promise does.
pub mod Reached
