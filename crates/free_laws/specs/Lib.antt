pub mod Assumptions
pub mod Keys
pub mod Steps
