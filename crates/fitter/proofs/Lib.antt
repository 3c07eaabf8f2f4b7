pub mod Numbers
pub mod AfterRepair
pub mod AfterLists
pub mod AfterRead
pub mod LentMemory
pub mod LabelsMeanCtl
pub mod RepairerAndJudge
