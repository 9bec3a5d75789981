pub mod Extremes
pub mod Maximum
pub mod Minimum
