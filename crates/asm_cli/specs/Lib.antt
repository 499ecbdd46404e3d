pub mod Answer
pub mod Counts
pub mod Exit
pub mod Fault
pub mod Reply
pub mod Saying
pub mod Plays
pub mod Words
