pub mod Filling
pub mod Held
pub mod States
