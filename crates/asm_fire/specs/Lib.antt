pub mod Answer
pub mod Chooser
pub mod Drawing
pub mod Fault
pub mod Guard
pub mod Picking
pub mod Sound
pub mod Work
