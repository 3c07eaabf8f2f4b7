-- What is promised.
pub mod Exact
pub mod RoundTrip
pub mod Sample
-- What computes; a law or a clause says that it agrees with what is to be believed.
pub mod Render
-- What contracts between functions and proofs speak of; no promise does.
pub mod Stored
