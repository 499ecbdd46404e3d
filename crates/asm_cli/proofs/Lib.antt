pub mod Answering
mod Checking
pub mod Loaded
pub mod Numbers
pub mod Replying
pub mod Numbered
pub mod Played
pub mod Serving
pub mod Playing
pub mod Renamed
pub mod Settled
