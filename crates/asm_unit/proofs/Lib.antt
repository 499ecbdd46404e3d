pub mod Faults
pub mod Outcomes
pub mod Sources
pub mod Ending
pub mod Verdicts
pub mod Lexemes
pub mod Enough
