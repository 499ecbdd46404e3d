pub mod Bounds
pub mod Firsts
pub mod Picks
pub mod Slots
pub mod Steps
pub mod TupleLemmas
