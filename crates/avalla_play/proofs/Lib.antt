pub mod Beginning
pub mod Commands
pub mod Inputs
pub mod Judgement
pub mod Landing
pub mod Turning
pub mod Writing
