pub mod Answering
pub mod Counter
pub mod Linkable
pub mod Linked
pub mod Linking
pub mod Refining
pub mod Rows
