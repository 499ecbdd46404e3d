pub mod Domains
pub mod Firsts
pub mod Opened
pub mod Paths
pub mod Steps
