mod Found
mod Nodes
mod RowSteps
mod Shorter
mod Leading
mod Walks
