pub mod Slots
pub mod Updates
