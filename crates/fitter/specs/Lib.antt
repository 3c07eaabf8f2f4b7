-- What is promised.
pub mod LentMemory
pub mod LabelsMeanCtl
pub mod RepairerAndJudge
pub mod Numbers
