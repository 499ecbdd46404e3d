mod Adding
mod Walking
mod Naming
mod Counting
mod Commands
mod Growing
