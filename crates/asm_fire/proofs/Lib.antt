pub mod Drawings
pub mod Equals
pub mod Firing
pub mod Joining
pub mod Keeping
pub mod Placing
pub mod Single
pub mod Sounding
