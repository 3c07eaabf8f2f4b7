-- What is promised.
pub mod Exact
pub mod Sample
pub mod Readings
-- What computes; a law or a clause says that it agrees with what is to be believed.
pub mod Read
