pub mod Tasks
pub mod Firsts
pub mod Leasts
