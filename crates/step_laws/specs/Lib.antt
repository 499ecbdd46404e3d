pub mod Stepping
pub mod Runs
