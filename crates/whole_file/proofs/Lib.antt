pub mod Ending
pub mod Lexemes
pub mod Verdicts
