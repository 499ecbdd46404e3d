pub mod VariableBounds
pub mod Told
pub mod Sound
