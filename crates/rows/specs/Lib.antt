-- What contracts between functions and proofs speak of; no promise does.
pub mod Row
pub mod Rules
pub mod Words
pub mod Pushed
pub mod Steps
