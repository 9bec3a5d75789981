pub mod Cuts
pub mod Subproblems
pub mod Paths
pub mod Growth
pub mod Deeper
