pub mod Binding
pub mod Group
pub mod Merging
pub mod Tuple
