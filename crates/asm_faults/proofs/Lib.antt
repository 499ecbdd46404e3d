pub mod Finding
pub mod Noting
pub mod Order
mod Rows
