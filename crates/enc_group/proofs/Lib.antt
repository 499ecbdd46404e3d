pub mod Groups
pub mod Mergings
pub mod Onces
pub mod Places
pub mod Tuples
