pub mod Document
pub mod Terms
pub mod Rules
pub mod Units
pub mod Placeless
pub mod Pieces
pub mod Law
