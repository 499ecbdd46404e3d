pub mod Path
pub mod Import
pub mod Spelled
pub mod Unit
pub mod Loading
