pub mod Looked
pub mod Starts
pub mod ReachedStates
pub mod Order
pub mod Exact
