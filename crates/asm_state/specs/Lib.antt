pub mod Entries
pub mod State
