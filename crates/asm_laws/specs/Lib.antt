pub mod Choosing
pub mod Extending
pub mod Free
pub mod Full
pub mod Levels
pub mod Sites
