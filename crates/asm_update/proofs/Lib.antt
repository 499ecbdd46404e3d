pub mod Clashes
pub mod Differing
pub mod Ordered
pub mod Putting
