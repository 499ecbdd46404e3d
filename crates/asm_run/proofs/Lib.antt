pub mod Entering
pub mod Reaching
pub mod Runs
pub mod Sharing
pub mod Takes
pub mod Truths
