pub mod Printing
pub mod Running
pub mod Started
pub mod Stepping
