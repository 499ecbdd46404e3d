pub mod TermDocuments
pub mod RuleDocuments
pub mod Texts
pub mod RuleTexts
pub mod UnitTexts
mod Ends
mod Classes
mod Cutting
mod Made
mod Good
mod Chains
mod Phrases
mod Levels
mod Operators
mod GoodTerms
mod GoodRules
mod Known
mod GoodUnits
mod GoodPaths
mod Again
mod PlainTerms
mod PlainRules
mod Example
