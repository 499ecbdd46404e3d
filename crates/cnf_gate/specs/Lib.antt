pub mod Gates
pub mod Built
pub mod Ladder
pub mod Circuit
pub mod Limits
