pub mod Codes
pub mod Fault
pub mod Held
pub mod Printed
pub mod Reached
pub mod Session
pub mod Stepping
