pub mod Examples
mod Alike
mod Begun
mod Covering
mod Reading
