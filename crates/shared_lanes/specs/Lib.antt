pub mod Lanes
pub mod Cuts
