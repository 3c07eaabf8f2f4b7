-- To be believed: what the promises speak of.
pub mod Closure
pub mod Settled
pub mod Given
-- What is promised.
pub mod Exact
-- What computes; a law or a clause says that it agrees with what is to be believed.
pub mod Computed
pub mod Numbered
-- What contracts between functions and proofs speak of; no promise does.
pub mod Knowledge
pub mod KnowledgeIn
pub mod Dual
pub mod Rest
pub mod Advance
pub mod Closes
pub mod MemoryRules
pub mod Bases
