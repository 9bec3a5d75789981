pub mod Masks
pub mod Steps
pub mod Heard
pub mod Lanes
pub mod Greatest
pub mod Ends
pub mod Existence
