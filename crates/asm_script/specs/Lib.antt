pub mod Script
pub mod Tables
