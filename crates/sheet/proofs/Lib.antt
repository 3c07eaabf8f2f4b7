pub mod Exact
pub mod Decimal
pub mod FieldSteps
pub mod FieldExact
pub mod Lines
pub mod Whole
pub mod Times
pub mod Readings
