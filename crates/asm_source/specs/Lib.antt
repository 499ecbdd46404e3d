pub mod Appends
pub mod Spots
