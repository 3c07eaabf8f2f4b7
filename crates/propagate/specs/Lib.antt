-- What contracts between functions and proofs speak of; no promise does.
pub mod Back
pub mod Memory
pub mod Level
pub mod Gates
pub mod Marked
