pub mod Agreeing
pub mod Clashes
pub mod Consistency
pub mod Entries
pub mod Guards
pub mod Telling
pub mod Twice
pub mod Unions
