pub mod Bools
pub mod Numbers
mod Only
pub mod All
pub mod Verdicts
pub mod Buffer
pub mod Records
pub mod Bytes
pub mod Past
pub mod Scan
pub mod Rows
pub mod TargetSets
pub mod Decided
pub mod AcceptedFacts
pub mod Facts
pub mod Refused
