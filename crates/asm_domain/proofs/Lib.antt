pub mod Distinct
pub mod Elements
pub mod Products
pub mod Sizes
pub mod Spanning
pub mod Held
