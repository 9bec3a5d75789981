pub mod ListLaws
pub mod Moves
pub mod Steps
pub mod Showing
