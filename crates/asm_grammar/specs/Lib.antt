pub mod Front
pub mod Grammar
pub mod Text
pub mod Whole
