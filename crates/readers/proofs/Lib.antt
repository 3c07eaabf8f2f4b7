pub mod MarkLaws
pub mod NodeReads
pub mod Places
