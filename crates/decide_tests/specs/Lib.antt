pub mod Answered
pub mod Choices
pub mod Tables
