-- To be believed: what the promises speak of.
pub mod Form
-- What is promised.
pub mod OneReading
-- What computes; a law or a clause says that it agrees with what is to be believed.
pub mod Parse
-- What contracts between functions and proofs speak of; no promise does.
pub mod Reading
