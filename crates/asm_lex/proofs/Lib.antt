pub mod Words
pub mod Numbers
pub mod Pieces
pub mod Steps
pub mod Sound
pub mod Small
