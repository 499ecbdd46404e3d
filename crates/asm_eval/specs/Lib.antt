pub mod Answer
pub mod Beginning
pub mod Work
pub mod World
