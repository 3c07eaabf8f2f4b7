pub mod StepWords
pub mod RowLaws
