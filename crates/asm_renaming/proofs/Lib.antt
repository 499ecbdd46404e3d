mod Attempts
mod Coding
mod Evaluating
mod Meanings
mod NamedRules
mod NamedTerms
mod Naming
