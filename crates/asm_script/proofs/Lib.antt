mod Answering
mod Calling
mod Keeping
mod Making
mod Passing
mod Sound
mod Tabling
