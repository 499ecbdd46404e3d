pub mod Branching
pub mod Calling
pub mod Coming
pub mod Parts
pub mod Writing
