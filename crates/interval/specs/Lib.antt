pub mod Limits
pub mod Quotients
pub mod Boxes
pub mod Corners
