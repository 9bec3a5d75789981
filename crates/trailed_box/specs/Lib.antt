pub mod Trailed
pub mod Trail
pub mod Invariant
