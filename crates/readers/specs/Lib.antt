-- What contracts between functions and proofs speak of; no promise does.
pub mod Reads
pub mod Rising
pub mod Readers
pub mod Marked
