pub mod Scenario
pub mod Prepared
pub mod Parts
