pub mod Entered
pub mod Locations
pub mod Measures
pub mod Numbers
pub mod Targets
pub mod Told
