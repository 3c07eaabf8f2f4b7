-- What is promised.
pub mod Exports
pub mod Answers
