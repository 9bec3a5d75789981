pub mod Reached
pub mod Runs
pub mod Longest
pub mod Cuts
pub mod Turns
pub mod Rows
