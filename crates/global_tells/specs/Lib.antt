pub mod Ranges
pub mod Places
pub mod AllDifferent
pub mod Cumulative
