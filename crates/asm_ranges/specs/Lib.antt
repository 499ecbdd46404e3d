pub mod Bound
pub mod Elements
pub mod Parts
pub mod Pieces
pub mod Spreading
pub mod Spreads
