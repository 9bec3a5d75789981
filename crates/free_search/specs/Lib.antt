pub mod Ready
pub mod Tasks
pub mod Ends
pub mod Free
