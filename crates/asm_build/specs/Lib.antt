pub mod Added
pub mod Assembled
pub mod Forms
pub mod Made
pub mod MadeRules
pub mod RuleParts
