pub mod Arguments
pub mod Indexed
pub mod Kind
pub mod Tuples
pub mod Vocabulary
