mod Locations
mod Passing
mod Signing
