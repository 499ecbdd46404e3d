mod Declared
pub mod TriedModels
pub mod TriedRules
