pub mod Checks
pub mod Wholes
pub mod Unique
