pub mod Interval
pub mod Kinds
pub mod Narrow
pub mod Refusal
pub mod Universe
