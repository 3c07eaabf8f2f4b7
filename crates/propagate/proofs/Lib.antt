pub mod Chain
pub mod AddedRow
pub mod MarkedLaws
