pub mod Words
pub mod Language
pub mod Terms
pub mod Rules
pub mod Units
pub mod Scripts
pub mod Spelling
