pub mod Parsed
pub mod Trees
