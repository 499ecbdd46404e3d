pub mod Meaning
pub mod Step
pub mod Built
pub mod Rungs
pub mod Climbs
pub mod Choice
pub mod Chosen
pub mod Growing
