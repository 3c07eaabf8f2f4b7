-- To be believed: what the promises speak of.
pub mod Table
pub mod Shape
pub mod Operator
pub mod Facts
pub mod Verdict
pub mod RefusalText
pub mod Buffer
-- What is promised.
pub mod Refused
pub mod From
pub mod First
-- What computes; a law or a clause says that it agrees with what is to be believed.
pub mod Accept
-- What contracts between functions and proofs speak of; no promise does.
pub mod Family
pub mod Rows
pub mod StateSets
