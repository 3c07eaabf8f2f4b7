-- What contracts between functions and proofs speak of; no promise does.
pub mod Watched
pub mod Setting
pub mod NetTable
pub mod Ordered
pub mod Looked
pub mod Levels
