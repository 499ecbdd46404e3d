pub mod Called
pub mod Callers
pub mod Graphs
pub mod Reads
