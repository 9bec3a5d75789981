pub mod Selection
pub mod Picks
pub mod Parts
pub mod Fronts
pub mod Tree
pub mod Points
