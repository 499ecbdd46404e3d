pub mod BodyPieces
pub mod Bound
pub mod Given
pub mod Heads
pub mod Pieces
pub mod RulePieces
